use Rattle.std.proofs.Common.{◌<◌, ℕ}
use Rattle.dsa_conform.specs.Ways.{IsQueueAlike}
use Rattle.dsa_conform.proofs.alike.same_queues.Given as goal

-- those before are alike
abbrev pub invariant-loop-queue : goal.invariant-loop-queue
invariant-loop-queue g l = (queue : ℕ) → queue < l.queue → IsQueueAlike l.first.state.work l.second.state.work queue
