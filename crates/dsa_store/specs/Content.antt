-- What a store holds, and what each call leaves (profile).
use Rattle.std.specs.Prelude.{◌≡◌, ℕ, ◌<◌, ◌≤◌, Bool, not, cond, ◌&&◌, ◌==◌, nat_lt, List, [], ◌∷◌, ◌++◌, map, take}
use Rattle.std.specs.Prelude.{drop, length, slice_set, slice_index_or, Option, Some, None}
use Rattle.std.specs.{List.{filter, find, list_any, flat_map, count_by, sum_by, position}, Option.{option_map}}
use Rattle.dsa_store.specs.declared.entry.{Cell.{Cell}, Entry.{Entry}}

-- a cell in use, with its entry
abbrev pub HeldEntry : Type 0
HeldEntry = Cell × Entry

-- the lists by number, each with its entries in order, the front first
abbrev pub Content : Type 0
Content = List (List HeldEntry)

-- the entry is that cell's
abbrev pub is_cell : Cell → HeldEntry → Bool
is_cell cell s = s.0.0 == cell.0

-- the list of that number
abbrev pub chain : Content → ℕ → List HeldEntry
chain content list = slice_index_or content list []

-- how many places of a list name the cell
unfoldable pub place_count : Cell → List HeldEntry → ℕ
place_count cell l = count_by (is_cell cell) l

-- how many places of all lists name the cell
unfoldable pub use_count : Content → Cell → ℕ
use_count content cell = sum_by (place_count cell) content

-- how many cells are in use
unfoldable pub held_count : Content → ℕ
held_count content = sum_by length content

-- the entry that the cell holds, if a list names it
abbrev pub entry_of : Content → Cell → Option Entry
entry_of [] cell = None
entry_of (l ∷ ls) cell = cond (list_any (is_cell cell) l) (option_map (λ s. s.1) (find (is_cell cell) l))
    (entry_of ls cell)

-- the number of the list that names the cell, if one does
abbrev pub list_of_cell : Content → Cell → Option ℕ
list_of_cell content cell = position (list_any (is_cell cell)) content

-- the cell at the front of a list
abbrev pub first_cell : List HeldEntry → Option Cell
first_cell [] = None
first_cell (s ∷ l) = Some s.0

-- the cell that follows in a list
abbrev pub cell_after : Cell → List HeldEntry → Option Cell
cell_after cell [] = None
cell_after cell (s ∷ l) = cond (is_cell cell s) (first_cell l) (cell_after cell l)

-- the cell that follows in the list that names the cell
abbrev pub next_of : Content → Cell → Option Cell
next_of [] cell = None
next_of (l ∷ ls) cell = cond (list_any (is_cell cell) l) (cell_after cell l) (next_of ls cell)

-- with the entry in that cell at the end of the list
abbrev pub after_push : Content → ℕ → Cell → Entry → Content
after_push content list cell entry = slice_set content list (chain content list ++ (cell, entry) ∷ [])

-- without the front of the list
abbrev pub without_front : Content → ℕ → Content
without_front content list = slice_set content list (drop 1 (chain content list))

-- with the front of one list at the end of the other
abbrev pub after_move : Content → ℕ → ℕ → Content
after_move content from to = slice_set (without_front content from) to (chain content to ++ take 1 (chain content from))

-- without the cell
abbrev pub after_unlink : Content → Cell → Content
after_unlink content cell = map (filter (λ s. not (is_cell cell s))) content

-- with another entry in the cell, at its place
abbrev pub after_set : Content → Cell → Entry → Content
after_set content cell entry = map (map (λ s. cond (is_cell cell s) (s.0, entry) s)) content

-- with that list empty
abbrev pub after_give_back : Content → ℕ → Content
after_give_back content list = slice_set content list []

-- what holds of each store of that many cells: no cell stands twice, each that stands is one of the store's
pub record IsSound (cells : ℕ) (content : Content) : Type 0 where
  pub once : (cell : Cell) → use_count content cell ≤ 1
  pub below : (cell : Cell) → cells ≤ cell.0 → use_count content cell ≡ 0
  pub room : held_count content ≤ cells

-- the cell, with that entry, is the k-th of list i
pub record StandsAt (content : Content) (i k : ℕ) (cell : Cell) (entry : Entry) : Type 0 where
  pub within : k < length (chain content i)
  pub pair : slice_index_or (chain content i) k (cell, entry) ≡ (cell, entry)

-- ---- the lists together

-- the entries of all lists, list by list, each front first
abbrev pub all_held : Content → List HeldEntry
all_held content = flat_map (λ list. list) content

-- a cell of the store that no list names
abbrev pub is_free : ℕ → Content → Cell → Bool
is_free cells content cell = nat_lt cell.0 cells && not (list_any (is_cell cell) (all_held content))

-- the entries whose entry passes, in order
abbrev pub only_where : (Entry → Bool) → Content → Content
only_where test content = map (filter (λ s. test s.1)) content

-- how many held entries pass
abbrev pub count_where : (Entry → Bool) → Content → ℕ
count_where test content = count_by (λ s. test s.1) (all_held content)
