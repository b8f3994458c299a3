-- What callers see of a store is sound.
use Rattle.std.proofs.Common.{◌≡◌, ℕ, ◌-◌, List, [], ◌∷◌, length, map, sum_by, arith}
use Rattle.std.proofs.lemmas.{Bool.Decides.{nat_tests}, List.Sums.{sum_by-cons, sum_by-take-le}}
use Rattle.std.proofs.Math.ListN.{length-map}
use Rattle.dsa_store.specs.declared.entry.{Cell.{Cell}, Entry.{Entry}}
use Rattle.dsa_store.specs.Content.{IsSound, use_count, held_count, place_count}
use Rattle.dsa_store.proofs.{Places.{count-nil, count-cons}, Lists.{uses-nil, uses-cons, held-nil, held-cons}}
use Rattle.dsa_cells.specs.{declared.links.{Node.{Node}, Header.{Header}}, Array.{entries_of}}
use Rattle.dsa_cells.specs.{Partition.{times, lists_of, lists_in_use}, Invariant.{IsWholeArray}}
use Rattle.dsa_cells.specs.Content.{held_entry_of_number, content_at}
use Rattle.dsa_cells.specs.Owners.{is_partition}

-- a list of entries names a cell as often as the list of their cells
pub count-entries : (es : List Entry) (cell : Cell) (xs : List ℕ)
    → place_count cell (map (held_entry_of_number es) xs) ≡ times cell.0 xs
count-entries es cell [] = count-nil cell
count-entries es cell (x ∷ xs) =
    grind (
      arith,
      nat_tests,
      count-cons cell (held_entry_of_number es x) (map (held_entry_of_number es) xs),
      count-entries es cell xs,
    )

-- and so do lists of them
pub uses-entries : (es : List Entry) (cell : Cell) (lists : List (List ℕ))
    → use_count (map (map (held_entry_of_number es)) lists) cell ≡ sum_by (times cell.0) lists
uses-entries es cell [] = uses-nil cell
uses-entries es cell (xs ∷ lists) = omega (
  arith,
  uses-cons (map (held_entry_of_number es) xs) (map (map (held_entry_of_number es)) lists) cell,
  sum_by-cons (times cell.0) xs lists,
  count-entries es cell xs,
  uses-entries es cell lists,
)

-- lists of entries hold as many cells
pub held-entries : (es : List Entry) (lists : List (List ℕ))
    → held_count (map (map (held_entry_of_number es)) lists) ≡ sum_by length lists
held-entries es [] = held-nil
held-entries es (xs ∷ lists) = omega (
  arith,
  held-cons (map (held_entry_of_number es) xs) (map (map (held_entry_of_number es)) lists),
  sum_by-cons length xs lists,
  held-entries es lists,
  length-map xs (held_entry_of_number es),
)

-- what a whole store holds is sound
pub IsSound-from_whole : (s : List Node) (r : List Header) → IsWholeArray s r → IsSound (length s) (content_at s r)
IsSound-from_whole s r i =
    let lists = lists_of s r in
    let es = entries_of s in
    let parts = is_partition s r lists i.store in
    let some = λ (cell : Cell). sum_by-take-le (times cell.0) lists (length lists - 1) in
    record {
      once = λ cell. grind (
        arith,
        uses-entries es cell (lists_in_use lists),
        some cell,
        parts.once cell.0,
        parts.only cell.0,
      );
      below = λ cell past. omega (arith, uses-entries es cell (lists_in_use lists), some cell, parts.only cell.0 past);
      room = omega (
        arith,
        held-entries es (lists_in_use lists),
        sum_by-take-le length lists (length lists - 1),
        i.store.total,
      );
    }
