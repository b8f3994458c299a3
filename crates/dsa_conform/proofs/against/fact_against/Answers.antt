use Rattle.dsa_conform.proofs.against.fact_against.Goals as goal
use Rattle.std.proofs.Common.{◌≡◌, ◌∙◌, true, Ok, sym, ap}
use Rattle.std.proofs.lemmas.Result.{IfOk-weaker}
use Rattle.dsa_explain_lines.specs.Parts.{part_of}
use Rattle.dsa_conform.specs.{Against.{event_fact, is_possible}, Seen.{seen_as}}

pub returns-in-Ok : goal.returns-in-Ok
returns-in-Ok g c =
    let yes : is_possible c.in-Ok.event (seen_as c.args.seen.now) ≡ true =
    sym c.is_possible.ensures ∙ c.if-is_possible.true in
    IfOk-weaker c.event_fact.result _ _
    (λ text is. rw c.in-Ok.is (rw yes
    (is ∙ ap (event_fact c.args.device.now c.in-Ok.event (seen_as c.args.seen.now))
    (c.requires ∙ ap (part_of c.args.device.now) c.in-Ok.is))))
    c.event_fact.ensures
