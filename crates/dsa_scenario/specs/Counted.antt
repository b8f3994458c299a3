-- A reader that is counted.
use Rattle.std.specs.Prelude.{◌≡◌, ◌≤◌, ◌<◌, ◌+◌, ◌^◌, ℕ, Bool, List, length, Option, Result, IsErrOf}
use Rattle.std.specs.Io.KnownBytes.{Consumes}
use Rattle.dsa_scenario.specs.declared.counted.CountedReader.{CountedReader}
use Rattle.dsa_scenario.specs.declared.faults.ScenarioFault.{ScenarioFault, TheVariants.{Read, TooLong}}
use Rattle.dsa_scenario.specs.Faults.{IsFaultNoted}

-- the bytes that the reader has left, where they are known
abbrev pub counted_remaining : {R : Type 0} → (R → Option (List ℕ)) → CountedReader R → Option (List ℕ)
counted_remaining remaining counted = remaining counted.reader.now

-- how often the reader was asked
abbrev pub asked_of : {R : Type 0} → CountedReader R → ℕ
asked_of counted = counted.asked

-- how many bytes the reader gave
abbrev pub given_of : {R : Type 0} → CountedReader R → ℕ
given_of counted = counted.given

-- how many bytes the reader gave when it was asked last
abbrev pub last_given : {R : Type 0} → CountedReader R → ℕ
last_given counted = counted.last

-- whether an answer of the reader was an error
abbrev pub has_reader_failed : {R : Type 0} → CountedReader R → Bool
has_reader_failed counted = counted.failed

-- both count the same reader
abbrev pub IsSameReader : {R : Type 0} → CountedReader R → CountedReader R → Type 0
IsSameReader old new = new.reader.ghost_name ≡ old.reader.ghost_name

-- the reader gave these bytes, and they were counted
abbrev pub HasGiven : {R : Type 0} → (R → Option (List ℕ)) → CountedReader R → CountedReader R → List ℕ → Type 0
HasGiven remaining old new bytes = Consumes (counted_remaining remaining old) (counted_remaining remaining new) bytes
    × (given_of new ≡ given_of old + length bytes)

-- the reader was asked at most once for each byte that it gave, and so many times besides
abbrev pub IsAskedFor : {R : Type 0} → (R → Option (List ℕ)) → CountedReader R → CountedReader R → ℕ → Type 0
IsAskedFor remaining old new besides = (bytes : List ℕ) × HasGiven remaining old new bytes
    × (asked_of new ≤ asked_of old + length bytes + besides)

-- what a call with this result did to its reader: it is the same one, it was asked at most once for each byte that
-- it gave and once more, and the faults of reading and of length are told of what it did (profile)
pub record IsReadFor {T R : Type 0} (remaining : R → Option (List ℕ)) (result : Result T ScenarioFault)
    (old new : CountedReader R) : Type 0 where
  pub same : IsSameReader old new
  pub asked : IsAskedFor remaining old new 1
  pub failed : IsFaultNoted Read result (has_reader_failed old) (has_reader_failed new)
  pub too_long : IsErrOf result TooLong → given_of old + 2 ^ 20 < given_of new
