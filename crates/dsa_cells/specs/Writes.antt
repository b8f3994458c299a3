-- What each step writes, and what it does to the lists.
use Rattle.std.specs.Prelude.{ℕ, ◌+◌, ◌-◌, ◌<◌, List, [], ◌∷◌, ◌++◌, length, Option, None, Some, slice_set, ◌==◌}
use Rattle.std.specs.Prelude.{filter, not}
use Rattle.std.specs.Option.{option_or}
use Rattle.dsa_cells.specs.{declared.links.{Node.{Node}, Header.{Header}}, Array.{node_at}}
use Rattle.dsa_cells.specs.Partition.{list_at, times}

-- the cell, if there is one, is a cell of the array
abbrev pub InRange : List Node → Option ℕ → Type 0
InRange nodes None = Unit {0}
InRange nodes (Some cell) = cell < length nodes

-- all cells are cells of the array
abbrev pub AreInside : List Node → List ℕ → Type 0
AreInside nodes cells = (cell : ℕ) → 0 < times cell cells → cell < length nodes

-- the array: the node of the cell, if there is one, is changed so
abbrev pub after_change : (Node → Node) → List Node → Option ℕ → List Node
after_change change nodes None = nodes
after_change change nodes (Some cell) = slice_set nodes cell (change (node_at nodes cell))

-- the array: these two, as far as they are there, are neighbours
abbrev pub after_join : List Node → Option ℕ → Option ℕ → List Node
after_join nodes before after =
    after_change (λ node. record node { previous = before })
    (after_change (λ node. record node { next = after }) nodes before) after

-- the header of a list behind which another came
abbrev pub header_after_join : Header → Header → Header
header_after_join kept given = record {
  head = option_or kept.head given.head;
  tail = option_or given.tail kept.tail;
  count = kept.count + given.count;
}

-- ---- a cell leaves its list

-- the array: the neighbours of the cell are neighbours now
abbrev pub after_detach : List Node → ℕ → List Node
after_detach nodes cell = after_join nodes (node_at nodes cell).previous (node_at nodes cell).next

-- the end of a list, or the other neighbour of the cell where the cell was that end
abbrev pub or_else : Option ℕ → Option ℕ → Option ℕ → Option ℕ
or_else None here there = here
or_else (Some _) here there = there

-- the header of a list that a cell with these neighbours left
abbrev pub header_without : Header → Node → Header
header_without header node = record {
  head = or_else node.previous node.next header.head;
  tail = or_else node.next node.previous header.tail;
  count = header.count - 1;
}

-- a list without the cell
abbrev pub cells_without : ℕ → List ℕ → List ℕ
cells_without cell cells = filter (λ other. not (other == cell)) cells

-- ---- a cell becomes the last of a list

-- the array: the cell has none behind it, and the list's number
abbrev pub as_last : List Node → ℕ → ℕ → List Node
as_last nodes cell list = after_change (λ node. record node { next = None; owner = list }) nodes (Some cell)

-- the header of a list whose last cell that is now
abbrev pub with_last : Header → ℕ → Header
with_last header cell = record {
  head = or_else header.tail (Some cell) header.head;
  tail = Some cell;
  count = header.count + 1;
}

-- the lists with these cells at the end of one
abbrev pub after_append : List (List ℕ) → ℕ → List ℕ → List (List ℕ)
after_append lists to cells = slice_set lists to (list_at lists to ++ cells)

-- the lists after the cell went from its list to the end of another
abbrev pub after_transfer : List (List ℕ) → ℕ → ℕ → ℕ → List (List ℕ)
after_transfer lists cell from to =
    after_append (slice_set lists from (cells_without cell (list_at lists from))) to (cell ∷ [])

-- ---- a list goes to the end of another

-- the array: these cells bear that list's number
abbrev pub after_mark : List Node → List ℕ → ℕ → List Node
after_mark nodes [] owner = nodes
after_mark nodes (cell ∷ cells) owner =
    after_mark (after_change (λ node. record node { owner = owner }) nodes (Some cell)) cells owner

-- the lists after all cells of one went to the end of another
abbrev pub after_splice : List (List ℕ) → ℕ → ℕ → List (List ℕ)
after_splice lists from to = after_append (slice_set lists from []) to (list_at lists from)
