use Rattle.dsa_draw.proofs.bands.push_bands.Given as goal
use Rattle.std.proofs.Common.{◌≡◌, ◌++◌, map}
use Rattle.std.specs.List.{range_with_len}

abbrev pub invariant-loop-number : goal.invariant-loop-number
invariant-loop-number l = l.bands.items
    ≡ l.initial.bands.items ++ map (λ n. record { kind = l.kind; number = n }) (range_with_len 0 l.number)
