-- Which lists an array of linked cells stands for, and that they share its cells out (profile).
use Rattle.std.specs.Prelude.{◌≡◌, ℕ, zero, suc, ◌-◌, ◌<◌, ◌≤◌, List, [], ◌∷◌, length, map, take, Option, None, Some}
use Rattle.std.specs.Prelude.{slice_index_or, cond, ◌==◌, sum_by}
use Rattle.dsa_cells.specs.{declared.links.{Node.{Node}, Header.{Header}}, Array.{node_at, header_at}}

-- ---- the lists that the array stands for

-- the cells met by following next from there, that many at most
abbrev pub walk : List Node → ℕ → Option ℕ → List ℕ
walk nodes zero at = []
walk nodes (suc n) None = []
walk nodes (suc n) (Some cell) = cell ∷ walk nodes n (node_at nodes cell).next

-- the cells of the list with that header: those met by following next from its head, as many as it counts
abbrev pub cells_of : List Node → Header → List ℕ
cells_of nodes header = walk nodes header.count header.head

-- the lists by number, that of the free cells last
abbrev pub lists_of : List Node → List Header → List (List ℕ)
lists_of nodes headers = map (cells_of nodes) headers

-- the lists but the last, which is that of the free cells
abbrev pub lists_in_use : List (List ℕ) → List (List ℕ)
lists_in_use lists = take (length lists - 1) lists

-- ---- the links agree with them

-- the first of the cells, or else that one
abbrev pub first_or : List ℕ → Option ℕ → Option ℕ
first_or [] after = after
first_or (cell ∷ cells) after = Some cell

-- the last of the cells, or else that one
abbrev pub last_or : List ℕ → Option ℕ → Option ℕ
last_or [] before = before
last_or (cell ∷ cells) before = last_or cells (Some cell)

-- the previous of each cell is the one before it and its next is the one behind it, where the two
-- outside stand before the first and behind the last
abbrev pub Linked : List Node → Option ℕ → List ℕ → Option ℕ → Type 0
Linked nodes before [] after = Unit {0}
Linked nodes before (cell ∷ cells) after =
    ((node_at nodes cell).previous ≡ before) × ((node_at nodes cell).next ≡ first_or cells after) ×
    Linked nodes (Some cell) cells after

-- the header and the links are those of these cells: nothing stands before the first or behind the
-- last, and with no cell there is no head and no tail
pub record IsHeader (nodes : List Node) (header : Header) (cells : List ℕ) : Type 0 where
  pub head : header.head ≡ first_or cells None
  pub tail : header.tail ≡ last_or cells None
  pub count : header.count ≡ length cells
  pub links : Linked nodes None cells None

-- one of the lists
abbrev pub list_at : List (List ℕ) → ℕ → List ℕ
list_at lists list = slice_index_or lists list []

-- each header is that of the list of its number
pub record AreHeaders (nodes : List Node) (headers : List Header) (lists : List (List ℕ)) : Type 0 where
  pub sizes : length headers ≡ length lists
  pub each : (list : ℕ) → list < length lists → IsHeader nodes (header_at headers list) (list_at lists list)

-- ---- each cell stands in one of them

-- how many places of a list name the cell
abbrev pub times : ℕ → List ℕ → ℕ
times cell [] = 0
times cell (other ∷ others) = cond (other == cell) (suc (times cell others)) (times cell others)

-- how many places of all lists do
abbrev pub places : List (List ℕ) → ℕ → ℕ
places lists cell = sum_by (times cell) lists

-- each cell below the number of cells stands in exactly one of the lists, at one place, and no other number in any
pub record IsPartition (cells : ℕ) (lists : List (List ℕ)) : Type 0 where
  pub once : (cell : ℕ) → cell < cells → places lists cell ≡ 1
  pub only : (cell : ℕ) → cells ≤ cell → places lists cell ≡ 0
