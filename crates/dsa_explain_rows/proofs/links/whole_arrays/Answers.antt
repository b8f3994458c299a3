use Rattle.dsa_explain_rows.proofs.links.whole_arrays.Goals as goal
use Rattle.std.proofs.Common.{◌≡◌, ◌<◌, ℕ, zero, suc, [], ◌∷◌, arith, lit≤, refl}
use Rattle.std.proofs.lemmas.Bool.Decides.{nat_tests}
use Rattle.dsa_cells.specs.{Array.{no_header, header_at, owners_of}, Invariant.{place_by_owner, IsStore}}
use Rattle.dsa_cells.specs.Partition.{list_at, lists_of, times, IsHeader}
use Rattle.dsa_cells.specs.Rows.{three_cells, three_headers}

-- the three lists have their headers
ends : (list : ℕ) → list < 3
    → IsHeader three_cells (header_at three_headers list) (list_at (lists_of three_cells three_headers) list)
ends zero low = record { head = refl; tail = refl; count = refl; links = (refl, refl, (refl, refl, tt)) }
ends (suc zero) low = record { head = refl; tail = refl; count = refl; links = tt }
ends (suc (suc zero)) low = record { head = refl; tail = refl; count = refl; links = (refl, refl, tt) }
ends (suc (suc (suc list))) low = absurd (omega (arith, low))

-- each cell is in the list whose number it bears, and in no other
placed : (list cell : ℕ)
    → times cell (list_at (lists_of three_cells three_headers) list) ≡ place_by_owner (owners_of three_cells) list cell
placed zero zero = refl
placed zero (suc zero) = refl
placed zero (suc (suc zero)) = refl
placed zero (suc (suc (suc cell))) = grind (arith, nat_tests)
placed (suc zero) zero = refl
placed (suc zero) (suc zero) = refl
placed (suc zero) (suc (suc zero)) = refl
placed (suc zero) (suc (suc (suc cell))) = grind (arith, nat_tests)
placed (suc (suc zero)) zero = refl
placed (suc (suc zero)) (suc zero) = refl
placed (suc (suc zero)) (suc (suc zero)) = refl
placed (suc (suc zero)) (suc (suc (suc cell))) = grind (arith, nat_tests)
placed (suc (suc (suc list))) zero = grind (arith, nat_tests)
placed (suc (suc (suc list))) (suc zero) = grind (arith, nat_tests)
placed (suc (suc (suc list))) (suc (suc zero)) = grind (arith, nat_tests)
placed (suc (suc (suc list))) (suc (suc (suc cell))) = grind (arith, nat_tests)

-- one list, with no cell
no_ends : (list : ℕ) → list < 1 → IsHeader [] (header_at (no_header ∷ []) list) (list_at ([] ∷ []) list)
no_ends zero low = record { head = refl; tail = refl; count = refl; links = tt }
no_ends (suc list) low = absurd (omega (arith, low))

none_placed : (list cell : ℕ) → times cell (list_at ([] ∷ []) list) ≡ place_by_owner [] list cell
none_placed zero cell = grind (arith, nat_tests)
none_placed (suc list) cell = grind (arith, nat_tests)

three_stored : IsStore three_cells three_headers (lists_of three_cells three_headers)
three_stored = record { ends = record { sizes = refl; each = ends }; placed = placed; total = refl }

pub returns-clause-three : goal.returns-clause-three
returns-clause-three c = record { store = three_stored; free = lit≤ tt; few_cells = lit≤ tt; few_lists = lit≤ tt }

none_stored : IsStore [] (no_header ∷ []) (lists_of [] (no_header ∷ []))
none_stored = record { ends = record { sizes = refl; each = no_ends }; placed = none_placed; total = refl }

pub returns-clause-no_cells : goal.returns-clause-no_cells
returns-clause-no_cells c = record { store = none_stored; free = lit≤ tt; few_cells = lit≤ tt; few_lists = lit≤ tt }

pub returns-clause-largest : goal.returns-clause-largest
returns-clause-largest c nodes headers cells lists store = record {
  store = store;
  free = omega (arith, lists);
  few_cells = omega (arith, cells);
  few_lists = omega (arith, lists);
}

pub returns-clause-too_many_cells : goal.returns-clause-too_many_cells
returns-clause-too_many_cells c nodes headers cells is = omega (arith, cells, is.few_cells)

pub returns-clause-too_many_lists : goal.returns-clause-too_many_lists
returns-clause-too_many_lists c nodes headers lists is = omega (arith, lists, is.few_lists)
