-- What a book contains.
use Rattle.std.specs.Prelude.{ℕ, ◌+◌, min, Bool, true, List, [], length}
use Rattle.dsa_book.specs.declared.{event.Step.{Step}, fate.FateRow.{FateRow}}
use Rattle.dsa_book.specs.declared.fate.PastFates.{PastFates, TheVariants.{Kept, Forgotten}}

-- the stored steps and the fate rows; for how many steps memory was taken, how many steps may be stored, and for how
-- many rows there is room; and whether the history began anew
pub record Records : Type 0 where
  pub history : List Step
  pub fates : List FateRow
  pub room : ℕ
  pub capacity : ℕ
  pub row_room : ℕ
  pub anew : Bool

-- the rows that are kept of what ended before (profile)
abbrev pub kept_fates : PastFates → List FateRow → List FateRow
kept_fates Kept rows = rows
kept_fates Forgotten rows = []

-- a book that begins anew while so many names are left and so many entries are held: no step is stored, and there is
-- room for a step for each name at most, and for a row for each entry that is held or may come (profile)
abbrev pub begun_anew : Records → PastFates → (names held : ℕ) → Records
begun_anew b past names held = record {
  history = [];
  fates = kept_fates past b.fates;
  room = b.room;
  capacity = min b.room names;
  row_room = length (kept_fates past b.fates) + (min b.room names + held);
  anew = true;
}
