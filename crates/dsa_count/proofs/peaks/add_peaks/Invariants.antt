use Rattle.dsa_count.proofs.peaks.add_peaks.Given as goal
use Rattle.std.proofs.Common.{◌≡◌, ◌++◌, get_or, string_bytes}
use Rattle.dsa_count.specs.Peaks.{peak_lines}

abbrev pub invariant-loop-number : goal.invariant-loop-number
invariant-loop-number l = string_bytes l.text
    ≡ string_bytes l.initial.text
    ++ peak_lines l.holder (λ n. get_or l.filled n 0) (λ n. get_or l.bounds n 0) l.number
