-- What the lists of a store hold.
use Rattle.std.specs.Prelude.{◌≡◌, ℕ, ◌-◌, ◌<◌, List, Option, None, Some, length, map, slice_index_or}
use Rattle.dsa_store.specs.declared.entry.{Cell.{Cell}, Entry.{Entry}}
use Rattle.dsa_store.specs.Content.{HeldEntry, Content, use_count, entry_of, list_of_cell, next_of, after_unlink, after_set}
use Rattle.dsa_cells.specs.{declared.links.{Node.{Node}, Header.{Header}}, Array.{no_entry, node_at, entries_of}}
use Rattle.dsa_cells.specs.Partition.{lists_of, lists_in_use}

-- a cell with what it holds
abbrev pub held_entry_of_number : List Entry → ℕ → HeldEntry
held_entry_of_number entries cell = (record { 0 = cell }, slice_index_or entries cell no_entry)

-- the lists but that of the free cells, each cell with what it holds
abbrev pub contents_of_cells : List Entry → List (List ℕ) → Content
contents_of_cells entries lists = map (map (held_entry_of_number entries)) (lists_in_use lists)

-- what the lists in use hold
abbrev pub content_at : List Node → List Header → Content
content_at nodes headers = contents_of_cells (entries_of nodes) (lists_of nodes headers)

-- the cell of this number
abbrev pub cell_of_number : Option ℕ → Option Cell
cell_of_number None = None
cell_of_number (Some cell) = Some (record { 0 = cell })

-- no list in use names the cell, and so much callers may know of it
pub record IsUnused (nodes : List Node) (headers : List Header) (cell : Cell) : Type 0 where
  pub none : use_count (content_at nodes headers) cell ≡ 0
  pub list : list_of_cell (content_at nodes headers) cell ≡ None
  pub entry : entry_of (content_at nodes headers) cell ≡ None
  pub next : next_of (content_at nodes headers) cell ≡ None
  pub unlinked : after_unlink (content_at nodes headers) cell ≡ content_at nodes headers
  pub replaced : (entry : Entry) → after_set (content_at nodes headers) cell entry ≡ content_at nodes headers

-- that is the node of the cell, and says what callers may know of it
pub record IsUsed (nodes : List Node) (headers : List Header) (cell : Cell) (node : Node) : Type 0 where
  pub inside : cell.0 < length nodes
  pub same : node ≡ node_at nodes cell.0
  pub listed : node.owner < length headers - 1
  pub used : 0 < use_count (content_at nodes headers) cell
  pub list : list_of_cell (content_at nodes headers) cell ≡ Some node.owner
  pub entry : entry_of (content_at nodes headers) cell ≡ Some node.entry
  pub next : next_of (content_at nodes headers) cell ≡ cell_of_number node.next
