use Rattle.dsa_draw.proofs.bands.peaks_of.Given as goal
use Rattle.std.proofs.Common.{◌≡◌, drop}
use Rattle.dsa_draw.specs.Bands.{peaks_of, raised_by}

abbrev pub invariant-loop-moment : goal.invariant-loop-moment
invariant-loop-moment l = raised_by l.band l.most (drop l.moment-index l.moments) ≡ peaks_of l.band l.moments
