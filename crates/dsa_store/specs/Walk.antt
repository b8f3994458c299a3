-- What a walk along a list has left.
use Rattle.std.specs.{Prelude.{List, [], ◌∷◌, cond, Option, Some, None}, List.{flat_map}}
use Rattle.dsa_store.specs.{declared.entry.Cell.{Cell}, Content.{HeldEntry, Content, is_cell}}

-- the entries of a list from that cell on
abbrev pub from_cell : Cell → List HeldEntry → List HeldEntry
from_cell cell [] = []
from_cell cell (s ∷ l) = cond (is_cell cell s) (s ∷ l) (from_cell cell l)

-- the entries from that cell on, in the list that names it
abbrev pub entries_from : Content → Option Cell → List HeldEntry
entries_from content None = []
entries_from content (Some cell) = flat_map (from_cell cell) content
