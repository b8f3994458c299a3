use Rattle.dsa_explore.proofs.tries.add_queues.Goals as goal
use Rattle.std.proofs.Common.{below_more, rules}

pub loop-queue-init : goal.loop-queue-init
loop-queue-init c = (λ t i. i, λ q below. absurd (search rules))

pub loop-queue-preserved : goal.loop-queue-preserved
loop-queue-preserved c = (
  λ t i. c.in_ok-add_queue.ensures.kept t (c.loop-queue.invariant.0 t i),
  below_more _ _ (λ q below may. c.in_ok-add_queue.ensures.kept _ (c.loop-queue.invariant.1 q below may))
      c.in_ok-add_queue.ensures.adds,
)

pub returns-clause-kept : goal.returns-clause-kept
returns-clause-kept c = c.loop-queue.invariant.0
