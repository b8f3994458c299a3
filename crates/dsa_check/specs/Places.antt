-- Places in a text, and what begins there.
use Rattle.std.specs.Prelude.{◌≡◌, ◌<◌, ◌≤◌, ◌==◌, ℕ, suc, Bool, not, List, ◌++◌, take, length}
use Rattle.std.specs.Prelude.{slice_get, slice_range, IsSomeAnd}
use Rattle.std.specs.List.{count_by, suffix_len}
use Rattle.std.specs.Prelude.{false, Option, Some, None, ⊤}
use Rattle.std.specs.declared.{alloc.Global.{Global}, vec.Vec.{Vec}}
use Rattle.serde_json.specs.{Data.{Data, depth}, Read.{max_depth}, Written.{has_float}}
use Rattle.dsa_scenario.specs.Document.{IsJson}
use Rattle.dsa_check.specs.declared.{places.Spot.{Spot}, scan.Extent.{Extent}}

-- ---- lines and columns, counted from 1

abbrev pub is_line_feed : ℕ → Bool
is_line_feed byte = byte == 10

abbrev pub is_of_line : ℕ → Bool
is_of_line byte = not (is_line_feed byte)

-- the line and the column of what comes after these bytes
abbrev pub line_after : List ℕ → ℕ
line_after before = suc (count_by is_line_feed before)

abbrev pub column_after : List ℕ → ℕ
column_after before = suc (suffix_len is_of_line before)

-- the place has the line and the column of its offset
pub record IsSpot (bytes : List ℕ) (spot : Spot) : Type 0 where
  pub inside : spot.at ≤ length bytes
  pub line : spot.line ≡ line_after (take spot.at bytes)
  pub column : spot.column ≡ column_after (take spot.at bytes)

-- ---- JSON texts

abbrev pub AreJson : List ℕ → Type 0
AreJson bytes = (d : Data) × IsJson bytes d

-- some JSON text begins with these bytes
abbrev pub BeginJson : List ℕ → Type 0
BeginJson bytes = (more : List ℕ) × AreJson (bytes ++ more)

-- the value nests no deeper than a text may
abbrev pub IsShallow : Data → Type 0
IsShallow d = depth d ≤ max_depth

-- the bytes are a text of the value, and the first of them is no blank
pub record AreTextOf (d : Data) (bytes : List ℕ) : Type 0 where
  pub json : IsJson bytes d
  pub first : IsSomeAnd (slice_get bytes 0) (λ byte. 32 < byte)

-- a text of the value begins on this line
pub record BeginsOnLine (bytes : List ℕ) (d : Data) (line : ℕ) : Type 0 where
  pub at : ℕ
  pub end : ℕ
  pub text : AreTextOf d (slice_range bytes at end)
  pub line_of_text : line ≡ line_after (take at bytes)

-- ---- where a step is found

-- the bytes between these places, of which the first is not before that one, are a text of the value; it has no float
pub record IsFoundBetween (bytes : List ℕ) (d : Data) (from begin end : ℕ) : Type 0 where
  pub ahead : from ≤ begin
  pub order : begin ≤ end
  pub inside : end ≤ length bytes
  pub whole : has_float d ≡ false
  pub text : AreTextOf d (slice_range bytes begin end)

-- where the value is found at the places that are known, the line is told on which it begins there
abbrev pub IsToldWhereFound : List ℕ → Data → ℕ → Option Extent → Option ℕ → Type 0
IsToldWhereFound bytes d from None line = ⊤
IsToldWhereFound bytes d from (Some extent) line =
    IsFoundBetween bytes d from extent.begin extent.end → line ≡ Some (line_after (take extent.begin bytes))

-- the places of an item, where those of the items are known
abbrev pub extent_at : Option (Vec Extent Global) → ℕ → Option Extent
extent_at None i = None
extent_at (Some extents) i = slice_get extents.items i
