use Rattle.std.proofs.Common.{drop}
use Rattle.dsa_recordings.specs.Reading.{AreAskable, HaveWords}
use Rattle.dsa_recordings.proofs.fits.steps_fit.Given as goal

abbrev pub invariant-loop-step : goal.invariant-loop-step
invariant-loop-step l =
    (HaveWords (drop l.step-index l.steps) → AreAskable (drop l.step-index l.steps))
    → HaveWords l.steps → AreAskable l.steps
