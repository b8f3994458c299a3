-- A writer that is watched.
use Rattle.std.specs.Prelude.{◌≡◌, ℕ, Bool, List, Option, Result}
use Rattle.dsa_scenario.specs.declared.watched.WatchedWriter.{WatchedWriter}
use Rattle.dsa_scenario.specs.declared.faults.ScenarioFault.{ScenarioFault, TheVariants.{Write}}
use Rattle.dsa_scenario.specs.Faults.{IsFaultNoted}

-- the bytes that the writer holds, where they are known
abbrev pub watched_contents : {W : Type 0} → (W → Option (List ℕ)) → WatchedWriter W → Option (List ℕ)
watched_contents contents watched = contents watched.writer.now

-- whether a write was refused: an error, or no byte of some
abbrev pub has_refused : {W : Type 0} → WatchedWriter W → Bool
has_refused watched = watched.refused

-- whether an error said that nobody reads what is written
abbrev pub is_closed : {W : Type 0} → WatchedWriter W → Bool
is_closed watched = watched.closed

-- both watch the same writer
abbrev pub IsSameWriter : {W : Type 0} → WatchedWriter W → WatchedWriter W → Type 0
IsSameWriter old new = new.writer.ghost_name ≡ old.writer.ghost_name

-- what a call with this result did to its writer: it is the same one, and the fault of writing is told of what it did
pub record IsWrittenFor {T W : Type 0} (result : Result T ScenarioFault) (old new : WatchedWriter W) : Type 0 where
  pub same : IsSameWriter old new
  pub refused : IsFaultNoted Write result (has_refused old) (has_refused new)
