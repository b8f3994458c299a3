-- What a store of linked cells keeps, which has one proof at most.
use Rattle.std.specs.Prelude.{◌≡◌, ℕ, ◌<◌, ◌≤◌, ◌^◌, List, [], ◌∷◌, length, Option, Some, slice_index_or, cond, ◌&&◌}
use Rattle.std.specs.Prelude.{◌==◌, ltb, sum_by}
use Rattle.std.specs.Coded.{Unit-prop}
use Rattle.std.proofs.Props.{props}
use Rattle.dsa_cells.specs.{declared.links.{Node.{Node}, Header.{Header}}, Array.{owners_of}}
use Rattle.dsa_cells.specs.Partition.{Linked, AreHeaders, list_at, lists_of, times}

-- 1 where a cell of the array bears the number of that list, else 0
abbrev pub place_by_owner : List ℕ → ℕ → ℕ → ℕ
place_by_owner owners list cell = cond (ltb cell (length owners) && (slice_index_or owners cell 0 == list)) 1 0

-- the headers are those of these lists, and each cell of the array stands once, in the list whose number it bears
pub record IsStore (nodes : List Node) (headers : List Header) (lists : List (List ℕ)) : Type 0 where
  pub ends : AreHeaders nodes headers lists
  pub placed : (list cell : ℕ) → times cell (list_at lists list) ≡ place_by_owner (owners_of nodes) list cell
  pub total : sum_by length lists ≡ length nodes

-- the same of the lists that the array stands for, of which one is the free list, and the numbers fit
pub record IsWholeArray (nodes : List Node) (headers : List Header) : Type 0 where
  pub store : IsStore nodes headers (lists_of nodes headers)
  pub free : 0 < length headers
  pub few_cells : length nodes < 2 ^ 32
  pub few_lists : length headers ≤ 2 ^ 16

-- the links of a list have one proof at most
pub Linked-prop : (nodes : List Node) (before : Option ℕ) (cells : List ℕ) (after : Option ℕ)
    → IsProp (Linked nodes before cells after)
Linked-prop nodes before [] after = Unit-prop
Linked-prop nodes before (cell ∷ cells) after =
    let rest = Linked-prop nodes (Some cell) cells after in Prim.hlevel (props, rest)

-- and so has the whole
pub IsWholeArray-prop : (nodes : List Node) (headers : List Header) → IsProp (IsWholeArray nodes headers)
IsWholeArray-prop nodes headers = Prim.hlevel (props, Linked-prop)
