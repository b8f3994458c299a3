use Rattle.std.proofs.Common.{◌≡◌, ℕ, ◌<◌, Some}
use Rattle.std.specs.Prelude.{slice_get}
use Rattle.dsa_explore.specs.declared.found.Found.{Found}
use Rattle.dsa_explore.proofs.merging.place_of.Given as goal

-- none before has the finding
abbrev pub invariant-loop-i : goal.invariant-loop-i
invariant-loop-i l = (k : ℕ) (row : Found) → k < l.i → slice_get l.rows k ≡ Some row → row.finding ≡ l.finding → ⊥
