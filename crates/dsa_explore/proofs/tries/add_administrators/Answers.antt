use Rattle.dsa_explore.proofs.tries.add_administrators.Goals as goal
use Rattle.dsa_parties.specs.declared.places.Move.TheVariants as move
use Rattle.std.proofs.Common.{below_more, arith}
use Rattle.dsa_explore.proofs.Listing.{lists-more}

pub loop-administrator-init : goal.loop-administrator-init
loop-administrator-init c = (λ t i. i, λ k below. absurd (omega (arith, below)))

pub loop-administrator-preserved : goal.loop-administrator-preserved
loop-administrator-preserved c = (
  λ t i. c.in_ok-add_move.ensures.kept t (c.loop-administrator.invariant.0 t i),
  below_more _ _
      (λ k below. lists-more c.args.plan.now.script.now c.args.walked.now c.loop-administrator.tries.items
      c.add_move.new.tries.items (move.Administrator k) c.in_ok-add_move.ensures.kept
      (c.loop-administrator.invariant.1 k below))
      c.in_ok-add_move.ensures.lists,
)

pub returns-clause-kept : goal.returns-clause-kept
returns-clause-kept c = c.loop-administrator.invariant.0
