use Rattle.dsa_conform.proofs.offering.find_shown.Goals as goal
use Rattle.dsa_conform.proofs.offering.find_shown.Goals.{in-Some+in_ok-is_shown+else-branch, in_default}
use Rattle.std.proofs.Common.{◌≡◌, ◌∙◌, sym, subst, false, Some, arith}
use Rattle.std.proofs.lemmas.Option.{same_Some}
use Rattle.dsa_scenario.specs.declared.run.Record.{Record}
use Rattle.dsa_conform.specs.{Allowed.{offer}, Seen.{seen_as, shows}}
use Rattle.dsa_conform.proofs.Choices.{none_more}
use Rattle.std.proofs.lemmas.Grind.{common_steps}

pub loop-queue-preserved : goal.loop-queue-preserved
loop-queue-preserved g c =
    let w = c.args.device.now.state.work in
    let seen = seen_as c.args.seen.now in
    let here : (entry : Record) → offer w c.args.engine c.loop-queue.queue ≡ Some entry → shows seen entry ≡ false =
    λ entry h. elim c.match-offer.branch [
      | in-Some+in_ok-is_shown+else-branch w ↦
          let same = same_Some w.in-Some.entry entry (sym w.in-Some.is ∙ c.offer.ensures ∙ h) in
          subst (λ (e : Record). shows seen e ≡ false) same (sym w.in_ok-is_shown.ensures ∙ w.if-branch.false)
      | in_default w ↦ let bad = sym w.in_default.is ∙ c.offer.ensures ∙ h in absurd cc
    ]
    in
    none_more w c.args.engine c.loop-queue.queue seen c.loop-queue.invariant here

pub returns : goal.returns
returns = grind (arith, common_steps)
