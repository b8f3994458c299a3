-- A worked array.
use Rattle.std.specs.Prelude.{ℕ, List, [], ◌∷◌, Option, None, Some}
use Rattle.dsa_cells.specs.{declared.links.{Node.{Node}, Header.{Header}}, Array.{no_entry, no_header}}

-- a cell of that list between these two
abbrev pub node : Option ℕ → Option ℕ → ℕ → Node
node previous next list = record { entry = no_entry; next = next; previous = previous; owner = list }

-- a list of so many cells from that one to that one
abbrev pub from_to : ℕ → ℕ → ℕ → Header
from_to head tail count = record { head = Some head; tail = Some tail; count = count }

-- of three cells list 0 has 2 and behind it 0, list 1 has none, and 1 is free
abbrev pub three_cells : List Node
three_cells = node (Some 2) None 0 ∷ node None None 2 ∷ node None (Some 0) 0 ∷ []

abbrev pub three_headers : List Header
three_headers = from_to 2 0 2 ∷ no_header ∷ from_to 1 1 1 ∷ []

-- the same, but that 0 has no previous
abbrev pub unmended_cells : List Node
unmended_cells = node None None 0 ∷ node None None 2 ∷ node None (Some 0) 0 ∷ []
