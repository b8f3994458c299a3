-- The lines of what several devices allow.
use Rattle.std.specs.Prelude.{◌≡◌, ◌<◌, ◌≤◌, ◌⊎◌, ℕ, List, [], ◌∷◌, map, length, take, slice_get, Some, string_bytes}
use Rattle.dsa_base.specs.Lists.{In}
use Rattle.dsa_scenario.specs.declared.run.Record.{Record}
use Rattle.dsa_conform.specs.declared.told.{Told.{Told}, Line.{Line}}
use Rattle.dsa_conform.specs.{Allowed.{queue_taken}, Seen.{Seen}}
use Rattle.dsa_conform.specs.Lines.{AreListed, allowed_line, difference_text}

-- a line as an answer and its text
abbrev pub line_as : Line → Record × List ℕ
line_as line = (line.entry, string_bytes line.text)

-- one of the lines has the text
abbrev pub HasText : List Line → List ℕ → Type 0
HasText lines text = (line : Line) × In line lines × (string_bytes line.text ≡ text)

-- up to this place no line is of a higher queue, and the one there is
pub record IsPlaceOf (lines : List Line) (queue at : ℕ) : Type 0 where
  pub inside : at ≤ length lines
  pub before : (line : Line) → In line (take at lines) → queue_taken line.entry ≤ queue
  pub here : (line : Line) → slice_get lines at ≡ Some line → queue < queue_taken line.entry

-- the line has been added, unless there was one with its text
pub record IsLinePlaced (old : List Line) (line : Line) (new : List Line) : Type 0 where
  pub each : (other : Line) → In other new → In other old ⊎ (line ≡ other)
  pub all : (other : Line) → In other old → In other new
  pub here : HasText new (string_bytes line.text)
  pub listed : AreListed (map line_as old) → AreListed (map line_as new)

-- the line is that of an answer that the device allows
abbrev pub IsLineOf : Line → Told → Type 0
IsLineOf line told =
    In line.entry told.allowed.items × (string_bytes line.text ≡ allowed_line (string_bytes told.why) line.entry)

-- the lines of these answers, which the device allows, have been added
pub record AddsLines (old new : List Line) (told : Told) (entries : List Record) : Type 0 where
  pub each : (line : Line) → In line new → In line old ⊎ IsLineOf line told
  pub all : (line : Line) → In line old → In line new
  pub here : (entry : Record) → In entry entries → HasText new (allowed_line (string_bytes told.why) entry)
  pub listed : AreListed (map line_as old) → AreListed (map line_as new)

-- the lines are those of what these devices allow
pub record AreLinesTold (tolds : List Told) (lines : List Line) : Type 0 where
  pub each : (line : Line) → In line lines → (told : Told) × In told tolds × IsLineOf line told
  pub all : (told : Told) → In told tolds → (entry : Record) → In entry told.allowed.items
      → HasText lines (allowed_line (string_bytes told.why) entry)
  pub listed : AreListed (map line_as lines)

-- the fact of the first device
abbrev pub fact_told : List Told → List ℕ
fact_told [] = []
fact_told (told ∷ tolds) = string_bytes told.against

-- the text has these lines
pub record IsTextTold (number : ℕ) (seen : Seen) (tolds : List Told) (text : List ℕ) : Type 0 where
  pub lines : List Line
  pub of_told : AreLinesTold tolds lines
  pub is : text ≡ difference_text number seen (fact_told tolds) (map line_as lines)
