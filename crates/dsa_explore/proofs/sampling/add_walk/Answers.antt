use Rattle.dsa_explore.proofs.sampling.add_walk.Goals as goal
use Rattle.std.proofs.Common.{◌≡◌, ◌∙◌, ap, arith, length, max, subst, List, refl}
use Rattle.dsa_explore.specs.{declared.found.Found.{Found}, Walked.{space_of}, Walking.{AreMerged}}
use Rattle.dsa_explore.proofs.Tallies.{tally-more}

pub returns-clause-sampled : goal.returns-clause-sampled
returns-clause-sampled c = λ first begun fine before.
    let old = c.args.tally.now in
    let steps : c.len-steps.result ≡ length c.in_ok-walk.walk.way.items = omega (arith, c.len-steps.ensures) in
    tally-more (space_of c.args.plan.now.caps c.args.plan.now.script.now) first (length c.args.plan.now.setup.now)
    c.in_ok-walk.walk.way.items c.in_ok-walk.walk.rows.items old _
    (c.in_ok-walk.ensures.stopped first begun fine)
    (subst (λ (r : List Found). AreMerged old.rows.items r c.merge_rows.new.rows.items) c.as_slice.ensures.value
    c.in_ok-merge_rows.ensures) refl
    (omega (arith, c.from.ensures, c.len-steps.ensures))
    (c.max-tally.ensures ∙ ap (λ k. max old.depth k) steps) before
