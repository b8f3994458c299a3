-- What stands at each place of the array, and of the headers.
use Rattle.std.specs.Prelude.{ℕ, false, List, None, slice_index_or, map}
use Rattle.dsa_store.specs.declared.entry.Entry.{Entry}
use Rattle.dsa_cells.specs.declared.links.{Node.{Node}, Header.{Header}}

-- what a cell holds before its first use
abbrev pub no_entry : Entry
no_entry = record {
  name = 0;
  parent = None;
  desc = record { pasid = 0; flags = 0; op = 0; size = 0 };
  queue = 0;
  running = false;
}

-- what stands past the end of the array
abbrev pub no_node : Node
no_node = record { entry = no_entry; next = None; previous = None; owner = 0 }

-- the node of that cell
abbrev pub node_at : List Node → ℕ → Node
node_at nodes cell = slice_index_or nodes cell no_node

-- the header of an empty list
abbrev pub no_header : Header
no_header = record { head = None; tail = None; count = 0 }

-- the header of that list
abbrev pub header_at : List Header → ℕ → Header
header_at headers list = slice_index_or headers list no_header

-- the number of its list that each cell bears
abbrev pub owners_of : List Node → List ℕ
owners_of nodes = map (λ (node : Node). node.owner) nodes

-- what each cell holds
abbrev pub entries_of : List Node → List Entry
entries_of nodes = map (λ (node : Node). node.entry) nodes
