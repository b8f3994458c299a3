use Rattle.dsa_explain_lines.proofs.dispatch.add_queues.Goals as goal
use Rattle.dsa_explain_lines.specs.Parts.{queue_part}
use Rattle.dsa_explain_lines.proofs.Joining.{told-next}

pub loop-queue-preserved : goal.loop-queue-preserved
loop-queue-preserved g c = told-next (queue_part c.args.device.now.state.work c.args.engine)
    c.loop-queue.queue _ _ _ c.loop-queue.invariant c.in_ok-add_queue.ensures
