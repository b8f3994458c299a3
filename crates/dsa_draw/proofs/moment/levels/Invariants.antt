use Rattle.dsa_draw.proofs.moment.levels.Given as goal
use Rattle.std.proofs.Common.{◌≡◌, map}
use Rattle.std.specs.List.{range_with_len}
use Rattle.dsa_draw.specs.Moments.{level_of}

abbrev pub invariant-loop-number : goal.invariant-loop-number
invariant-loop-number g l = l.levels.items ≡ map (level_of l.device l.kind) (range_with_len 0 l.number)
