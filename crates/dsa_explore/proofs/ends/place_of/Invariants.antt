use Rattle.std.proofs.Common.{◌≡◌, ℕ, ◌<◌, Some}
use Rattle.std.specs.Prelude.{slice_get}
use Rattle.dsa_explore.specs.declared.found.Ending.{Ending}
use Rattle.dsa_explore.specs.Ends.{AreLikeEndings}
use Rattle.dsa_explore.proofs.ends.place_of.Given as goal

-- none before is like it
abbrev pub invariant-loop-i : goal.invariant-loop-i
invariant-loop-i l = (k : ℕ) (other : Ending) → k < l.i → slice_get l.endings k ≡ Some other
    → AreLikeEndings other l.ending → ⊥
