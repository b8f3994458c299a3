-- What is read of a document, and what is written.
use Rattle.std.specs.Prelude.{◌≤◌, ◌<◌, ℕ, ◌^◌, List, length, take, Option, ⊤}
use Rattle.std.specs.Io.KnownBytes.{Consumes, IsAtEnd, Appends}
use Rattle.dsa_regs.specs.declared.Caps.{Caps}
use Rattle.dsa_scenario.specs.declared.actions.Action.{Action}
use Rattle.dsa_scenario.specs.{Document.{IsDocument, IsOpenable, IsFaultOf}, Run.{AreLinesOf}}
use Rattle.dsa_scenario.specs.declared.faults.ScenarioFault.{ScenarioFault}
use Rattle.dsa_scenario.specs.declared.faults.ScenarioFault.TheVariants.{Read, TooLong, Write, OutOfMemory}

-- the reader gave these bytes and then its end, and they are no more than a document has (profile)
abbrev pub IsWholeDocument : Option (List ℕ) → Option (List ℕ) → List ℕ → Type 0
IsWholeDocument old new bytes = Consumes old new bytes × IsAtEnd new × (length bytes ≤ 2 ^ 20)

-- the bytes are a document without a fault, and the lines are those of a run of it (profile)
pub record IsRenderingOf (bytes lines : List ℕ) : Type 0 where
  pub caps : Caps
  pub capacity : ℕ
  pub actions : List Action
  pub document : IsDocument bytes caps capacity actions
  pub opening : IsOpenable caps capacity
  pub lines_of_run : AreLinesOf caps capacity actions lines

-- what the reader gave, by the bytes that it had and has left, gives rise to this fault (profile)
abbrev pub HasFault : Option (List ℕ) → Option (List ℕ) → ScenarioFault → Type 0
HasFault had left Read = (bytes : List ℕ) × Consumes had left bytes × (length bytes ≤ 2 ^ 20)
HasFault had left TooLong = (bytes : List ℕ) × Consumes had left bytes × (2 ^ 20 < length bytes)
HasFault had left Write = ⊤
HasFault had left OutOfMemory = ⊤
HasFault had left fault = (bytes : List ℕ) × IsWholeDocument had left bytes × IsFaultOf bytes fault

-- the reader gave a document, and the writer, which held and holds these bytes, took all of a text that is of it
abbrev pub IsTextWritten : (List ℕ → List ℕ → Type 0) → Option (List ℕ) → Option (List ℕ) → Option (List ℕ)
    → Option (List ℕ) → Type 0
IsTextWritten is_of had left held holds = (bytes : List ℕ) × (text : List ℕ) × IsWholeDocument had left bytes
    × is_of bytes text
    × Appends held holds text

-- the writer has taken the first bytes of a text of the document, after which a fault is told or
-- none, and not all of them
abbrev pub IsTextCutShort : (List ℕ → Option ScenarioFault → List ℕ → Type 0) → Option (List ℕ) → Option (List ℕ)
    → Option (List ℕ) → Option (List ℕ) → Type 0
IsTextCutShort is_of had left held holds = (bytes : List ℕ) × (text : List ℕ) × (fault : Option ScenarioFault)
    × (count : ℕ) × IsWholeDocument had left bytes × is_of bytes fault text × (count < length text)
    × Appends held holds (take count text)

-- the writer, which held and holds these bytes, has taken the first lines of a run of the document, and not all of them
abbrev pub IsCutShort : Option (List ℕ) → Option (List ℕ) → Option (List ℕ) → Option (List ℕ) → Type 0
IsCutShort had left held holds = (bytes : List ℕ) × (lines : List ℕ) × (count : ℕ) × IsWholeDocument had left bytes
    × IsRenderingOf bytes lines × (count < length lines) × Appends held holds (take count lines)
