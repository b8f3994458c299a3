use Rattle.dsa_regs.proofs.groups.group_after.Given as goal
use Rattle.std.proofs.Common.{◌≡◌, ◌&&◌, nat_lt, false}
use Rattle.std.specs.List.{list_any}
use Rattle.dsa_base.specs.Numbers.{numbers_below}
use Rattle.dsa_regs.specs.Config.{names, group_at}

abbrev pub invariant-loop-group : goal.invariant-loop-group
invariant-loop-group l =
    list_any (λ g. nat_lt l.first g && names l.named (group_at l.groups g)) (numbers_below l.group) ≡ false
