use Rattle.dsa_regs.proofs.checks.total_size.Given as goal
use Rattle.std.proofs.Common.{◌≡◌, ◌-◌, ◌^◌, min, take}
use Rattle.dsa_regs.specs.Config.{total_size}

abbrev pub invariant-loop-queue : goal.invariant-loop-queue
invariant-loop-queue l = l.total ≡ min (total_size (take l.queue-index l.queues)) (2 ^ 32 - 1)
