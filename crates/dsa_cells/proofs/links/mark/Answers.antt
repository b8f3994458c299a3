use Rattle.dsa_cells.proofs.links.mark.Goals as goal
use Rattle.dsa_cells.proofs.{Splicing.{mark-some, mark-none}, links.mark.Goals.{in-Some, in_default}}

pub bounds-nodes-cell-in-Some : goal.bounds-nodes-cell-in-Some
bounds-nodes-cell-in-Some c = (mark-some _ _ _ _ _ _ _ c.loop-step-test.true c.in-Some.is c.loop-step.invariant).0

pub bounds-nodes-cell : goal.bounds-nodes-cell
bounds-nodes-cell c = (mark-some _ _ _ _ _ _ _ c.loop-step-test.true c.in-Some.is c.loop-step.invariant).0

pub loop-step-preserved : goal.loop-step-preserved
loop-step-preserved c = elim c.match-at.branch [
  | in-Some w ↦ (mark-some _ _ _ _ _ _ _ c.loop-step-test.true w.in-Some.is c.loop-step.invariant).1 _ _ w.nodes-is
      w.at-is
  | in_default w ↦ mark-none _ _ _ _ _ _ _ _ c.loop-step-test.true w.in_default.is w.nodes-is w.at-is
      c.loop-step.invariant
]
