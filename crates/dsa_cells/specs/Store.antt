-- What a store of linked cells shows of its array.
use Rattle.std.specs.Prelude.{ℕ, List, map}
use Rattle.dsa_store.specs.Content.{HeldEntry, Content}
use Rattle.dsa_cells.specs.declared.{links.{Node.{Node}, Header.{Header}}, store.LinkedStore.{LinkedStore}}
use Rattle.dsa_cells.specs.{Array.{node_at}, Partition.{lists_of, lists_in_use}}

-- the array of the store
abbrev pub array_of : {A : Type 0} → LinkedStore A → List Node
array_of store = store.nodes.items

-- the headers of its lists, that of the free list last
abbrev pub headers_of : {A : Type 0} → LinkedStore A → List Header
headers_of store = store.headers.items

-- the lists by number, that of the free cells last, found by following next from each head
abbrev pub all_lists : {A : Type 0} → LinkedStore A → List (List ℕ)
all_lists store = lists_of (array_of store) (headers_of store)

-- a cell of the store, with the entry that stands in it
abbrev pub held_entry_in_store : {A : Type 0} → LinkedStore A → ℕ → HeldEntry
held_entry_in_store store cell = (record { 0 = cell }, (node_at (array_of store) cell).entry)

-- the lists but that of the free cells, each cell with its entry
abbrev pub entries_in_use : {A : Type 0} → LinkedStore A → Content
entries_in_use store = map (map (held_entry_in_store store)) (lists_in_use (all_lists store))
