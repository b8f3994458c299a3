use Rattle.dsa_regs.proofs.groups.total_reserved.Given as goal
use Rattle.std.proofs.Common.{◌≡◌, ◌-◌, ◌^◌, min, take}
use Rattle.dsa_regs.specs.Config.{total_reserved}

abbrev pub invariant-loop-group : goal.invariant-loop-group
invariant-loop-group l = l.total ≡ min (total_reserved (take l.group-index l.groups)) (2 ^ 32 - 1)
