use Rattle.dsa_count.proofs.peaks.raised.Given as goal
use Rattle.std.proofs.Common.{◌≡◌, get_or, map, max}
use Rattle.dsa_base.specs.Numbers.{numbers_below}
use Rattle.dsa_count.specs.Peaks.{gauged}

abbrev pub invariant-loop-number : goal.invariant-loop-number
invariant-loop-number g l = l.raised.items
    ≡ map (λ n. max (get_or l.peaks n 0) (gauged l.device l.gauge n)) (numbers_below l.number)
