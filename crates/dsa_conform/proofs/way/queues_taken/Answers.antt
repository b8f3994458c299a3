use Rattle.dsa_conform.proofs.way.queues_taken.Goals as goal
use Rattle.dsa_conform.proofs.PartC.{one_taken}

pub loop-step-preserved : goal.loop-step-preserved
loop-step-preserved c =
    one_taken c.args.steps.now c.loop-step.step-index _ c.loop-step.queues.items c.add_queue.new.queues.items
    c.loop-step-test.true c.loop-step.invariant c.in_ok-add_queue.ensures
