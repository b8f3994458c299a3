-- Rows that a step adds.
use Rattle.std.specs.Prelude.{◌≡◌, ◌⊎◌, ℕ, List, get_or}
use Rattle.dsa_base.specs.Lists.{In}
use Rattle.dsa_keys.specs.Labels.{Labels}
use Rattle.dsa_explore.specs.declared.found.{Finding.{Finding}, Found.{Found}}

-- the labels of the first names, in order; 0 for all others
abbrev pub labels_of : List ℕ → Labels
labels_of labels = λ name. get_or labels name 0

-- a row has the finding
pub record HasFinding (rows : List Found) (finding : Finding) : Type 0 where
  pub row : Found
  pub within : In row rows
  pub same : row.finding ≡ finding

-- no two rows have one finding
abbrev pub AreDistinct : List Found → Type 0
AreDistinct rows = (row other : Found) → In row rows → In other rows → row.finding ≡ other.finding → row ≡ other

-- rows with these findings and so many steps were added, where no row had them
pub record AddsRows (steps : ℕ) (findings : List Finding) (old new : List Found) : Type 0 where
  pub kept : (row : Found) → In row old → In row new
  pub each : (row : Found) → In row new → In row old ⊎ (In row.finding findings × (row.steps ≡ steps))
  pub all : (finding : Finding) → In finding findings → HasFinding new finding
  pub once : AreDistinct old → AreDistinct new
