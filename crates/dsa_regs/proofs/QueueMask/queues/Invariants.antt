use Rattle.dsa_regs.proofs.QueueMask.queues.Given as goal
use Rattle.std.proofs.Common.{◌≡◌, ◌≤◌, ◌+◌, ◌*◌, map, filter, length}
use Rattle.dsa_base.specs.Numbers.{has, numbers_below}

abbrev pub invariant-loop-bit : goal.invariant-loop-bit
invariant-loop-bit l = record {
  few : length l.queues.items ≤ l.bit;
  named : l.queues.items ≡ map (λ b. 16 * l.self.group + b) (filter (has l.self.mask) (numbers_below l.bit));
}
