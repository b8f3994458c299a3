-- How the program ends: what it has written, and what it says of a fault (profile).
use Rattle.std.specs.Prelude.{◌≡◌, ◌≢◌, ◌⊎◌, ℕ, true, false, List, Option}
use Rattle.std.specs.Io.KnownBytes.{Appends}
use Rattle.dsa_scenario.specs.declared.faults.ScenarioFault.{ScenarioFault}
use Rattle.dsa_scenario.specs.declared.faults.ScenarioFault.TheVariants.{Write, OutOfMemory}
use Rattle.dsa_scenario.specs.declared.watched.WatchedWriter.{WatchedWriter}
use Rattle.dsa_scenario.specs.{Faults.{fault_line}, Scenario.{HasFault}}
use Rattle.dsa_scenario.specs.Watched.{watched_contents, has_refused, is_closed, IsSameWriter}

-- the line was added to what the other writer holds, unless that one refused a write or nobody reads the output
abbrev pub IsFaultTold : {O E : Type 0} → WatchedWriter O → (E → Option (List ℕ)) → WatchedWriter E → WatchedWriter E
    → List ℕ → Type 0
IsFaultTold out contents old new line = is_closed out ≡ false → has_refused new ≡ false
    → Appends (watched_contents contents old) (watched_contents contents new) line

-- nothing was told on status 0, nor on status 1 where nobody reads the output
abbrev pub IsQuiet : {O E : Type 0} → ℕ → WatchedWriter O → WatchedWriter E → WatchedWriter E → Type 0
IsQuiet status out old new = (status ≡ 0 → new ≡ old) × (status ≡ 1 → is_closed out ≡ true → new ≡ old)

-- what holds at each end: the writers are still the same ones, the status is one of two, and nothing more is told
pub record IsEnd {O E : Type 0} (status : ℕ) (out out' : WatchedWriter O) (err err' : WatchedWriter E) : Type 0 where
  pub same_output : IsSameWriter out out'
  pub same_writer : IsSameWriter err err'
  pub quiet : IsQuiet status out' err err'
  pub statuses : (status ≡ 0) ⊎ (status ≡ 1)

-- the status is that of a usage error, and the text was added to what the writer holds, unless that refused a write
pub record IsRefusal {E : Type 0} (ended : ℕ) (contents : E → Option (List ℕ)) (old new : WatchedWriter E)
    (told : List ℕ) : Type 0 where
  pub status : ended ≡ 2
  pub same_writer : IsSameWriter old new
  pub text : has_refused new ≡ false → Appends (watched_contents contents old) (watched_contents contents new) told

-- a fault ended it in this way, and is told
abbrev pub IsEndedBy : {O E : Type 0} → (ScenarioFault → Type 0) → WatchedWriter O → (E → Option (List ℕ))
    → WatchedWriter E → WatchedWriter E → Type 0
IsEndedBy way out contents old new =
    (fault : ScenarioFault) × way fault × IsFaultTold out contents old new (fault_line fault)

-- a fault of writing is told only of a writer that refused a write
abbrev pub IsWriteRefused : {W : Type 0} → ScenarioFault → WatchedWriter W → Type 0
IsWriteRefused fault out = fault ≡ Write → has_refused out ≡ true

-- what the reader gave, or memory or writing, gave rise to the fault; the writer is as it was, or on a fault of
-- writing `cut` says what it holds
abbrev pub IsStoppedBy : {W : Type 0} → ScenarioFault
    → (Option (List ℕ) → Option (List ℕ) → Option (List ℕ) → Option (List ℕ) → Type 0)
    → Option (List ℕ) → Option (List ℕ) → (W → Option (List ℕ)) → W → W → Type 0
IsStoppedBy fault cut had left contents old new = HasFault had left fault × (fault ≢ Write → new ≡ old)
    × (fault ≡ Write → cut had left (contents old) (contents new))

-- the same of a text that is written on the way: for want of memory `begun` may say what the writer holds
abbrev pub IsStoppedOnTheWay : {W : Type 0} → ScenarioFault
    → (Option (List ℕ) → Option (List ℕ) → Option (List ℕ) → Option (List ℕ) → Type 0)
    → (Option (List ℕ) → Option (List ℕ) → Option (List ℕ) → Option (List ℕ) → Type 0)
    → Option (List ℕ) → Option (List ℕ) → (W → Option (List ℕ)) → W → W → Type 0
IsStoppedOnTheWay fault cut begun had left contents old new = HasFault had left fault
    × (fault ≢ Write → (new ≡ old) ⊎ (fault ≡ OutOfMemory) × begun had left (contents old) (contents new))
    × (fault ≡ Write → cut had left (contents old) (contents new))

-- what clap says was not written: for want of memory, or because the writer refused it
abbrev pub IsUnwritten : {W : Type 0} → ScenarioFault → WatchedWriter W → WatchedWriter W → Type 0
IsUnwritten fault old new = (fault ≡ OutOfMemory) × (new ≡ old) ⊎ (fault ≡ Write) × (has_refused new ≡ true)
