use Rattle.std.specs.Prelude.{◌≡◌, ℕ, ◌+◌, ◌-◌, ◌<◌, List, length, None, Some, cond, ltb}
use Rattle.dsa_cells.specs.{declared.links.{Node.{Node}, Header.{Header}}, Array.{no_entry, node_at}}

-- a cell among n free ones, which stand in their order in this list
abbrev pub fresh_node : ℕ → ℕ → ℕ → Node
fresh_node n list cell = record {
  entry = no_entry;
  next = cond (ltb cell (n - 1)) (Some (cell + 1)) None;
  previous = cond (ltb 0 cell) (Some (cell - 1)) None;
  owner = list;
}

-- the first k cells of n free ones
pub record AreFresh (nodes : List Node) (n list k : ℕ) : Type 0 where
  pub size : length nodes ≡ k
  pub each : (cell : ℕ) → cell < k → node_at nodes cell ≡ fresh_node n list cell

-- the header of a list of n cells in their order
abbrev pub fresh_header : ℕ → Header
fresh_header n = record {
  head = cond (ltb 0 n) (Some 0) None;
  tail = cond (ltb 0 n) (Some (n - 1)) None;
  count = n;
}
