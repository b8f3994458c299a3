use Rattle.dsa_regs.proofs.groups.shared_queue.Given as goal
use Rattle.std.proofs.Common.{◌≡◌, false}
use Rattle.dsa_regs.specs.Config.{is_in_two}

abbrev pub invariant-loop-queue : goal.invariant-loop-queue
invariant-loop-queue l = is_in_two (λ g. g.queues) l.groups l.queue ≡ false
