use Rattle.dsa_regs.proofs.groups.first_past.Given as goal
use Rattle.std.proofs.Common.{◌≡◌, ◌&&◌, nat_le, false}
use Rattle.std.specs.List.{list_any}
use Rattle.dsa_base.specs.Numbers.{has, numbers_below}

abbrev pub invariant-loop-number : goal.invariant-loop-number
invariant-loop-number l = list_any (λ k. nat_le l.count k && has l.set k) (numbers_below l.number) ≡ false
