use Rattle.dsa_count.proofs.peaks.add_peaks.Goals as goal
use Rattle.std.proofs.Common.{ℕ, get_or}
use Rattle.dsa_count.specs.Peaks.{peak_line, peak_lines}
use Rattle.dsa_count.proofs.Texts.{told-more}

pub loop-number-preserved : goal.loop-number-preserved
unfolding peak_lines
loop-number-preserved c =
    told-more (λ (n : ℕ). peak_line c.args.holder n (get_or c.args.filled.now n 0) (get_or c.args.bounds.now n 0))
    c.loop-number.number _ _ _ c.loop-number.invariant
    (rw (c.peak_at.ensures, c.peak_at-in-loop-number.ensures) at c.in_ok-add_peak.ensures)
