-- Where fewer are held than the store has cells, one of its cells is free.
use Rattle.std.proofs.Common.{◌≡◌, ℕ, zero, suc, ◌+◌, ◌<◌, ◌≤◌, Bool, true, false, cond, List, [], ◌∷◌, length, arith}
use Rattle.std.proofs.lemmas.{Bool.{cases_eq, Decides.{nat_tests}}, List.Sums.{sum_by-cons, sum_by_push}}
use Rattle.std.{specs.Prelude.{sum_by, count_by, nat_lt}, proofs.Common.{◌⊎◌, inl, inr, ⊎_elim}}
use Rattle.dsa_base.{specs.Numbers.{numbers_below}, proofs.NumberSums.{sum-equal, sum-plus, sum-same}}
use Rattle.dsa_store.specs.Content.{HeldEntry, Content, is_cell, use_count, held_count, all_held, is_free}
use Rattle.dsa_store.{proofs.Sums.{uses-counted, held-counted, unused-is_free}, specs.declared.entry.Cell.{Cell}}

abbrev cell_at : ℕ → Cell
cell_at k = record { 0 = k }

-- one number at most is the entry's cell
one-cell : (x : HeldEntry) (n : ℕ) → sum_by (λ k. cond (is_cell (cell_at k) x) 1 0) (numbers_below n)
    ≡ cond (nat_lt x.0.0 n) 1 0
one-cell x zero = grind (arith, nat_tests)
one-cell x (suc n) = grind (arith, nat_tests, sum_by_push, one-cell x n)

-- each entry is of one cell
counted-once : (xs : List HeldEntry) (n : ℕ) → sum_by (λ k. count_by (is_cell (cell_at k)) xs) (numbers_below n) ≤ length xs
counted-once [] n = omega (arith, sum-same 0 n)
counted-once (x ∷ xs) n =
    let most : cond (nat_lt x.0.0 n) 1 0 ≤ 1 = grind (arith, nat_tests) in
    let each = sum-equal (λ k. count_by (is_cell (cell_at k)) (x ∷ xs))
    (λ k. cond (is_cell (cell_at k) x) 1 0 + count_by (is_cell (cell_at k)) xs) (numbers_below n)
    (λ k. sum_by-cons (λ s. cond (is_cell (cell_at k) s) 1 0) x xs) in
    omega (
      arith,
      each,
      sum-plus (λ k. cond (is_cell (cell_at k) x) 1 0) (λ k. count_by (is_cell (cell_at k)) xs) n,
      one-cell x n,
      most,
      counted-once xs n,
    )

-- a cell that none uses, or each is used
unused-or-all : (content : Content) (n : ℕ)
    → ((cell : Cell) × (cell.0 < n) × (use_count content cell ≡ 0))
    ⊎ (n ≤ sum_by (λ k. use_count content (cell_at k)) (numbers_below n))
unused-or-all content zero = inr (omega arith)
unused-or-all content (suc n) = ⊎_elim
    (λ found. inl (found.0, omega (arith, found.1), found.2))
    (λ all. ⊎_elim
    (λ (e : use_count content (cell_at n) ≡ 0). inl (cell_at n, omega arith, e))
    (λ e. inr (omega (arith, sum_by_push, all, e)))
    (cases_eq (use_count content (cell_at n)) 0))
    (unused-or-all content n)

pub free-cell : (cells : ℕ) (content : Content) → held_count content < cells
    → (cell : Cell) × (is_free cells content cell ≡ true)
free-cell cells content room = ⊎_elim
    (λ found. (found.0, unused-is_free cells content found.0 found.1 found.2))
    (λ all.
    let each = sum-equal (λ k. use_count content (cell_at k))
    (λ k. count_by (is_cell (cell_at k)) (all_held content)) (numbers_below cells)
    (λ k. uses-counted content (cell_at k)) in
    absurd (omega (arith, room, all, each, counted-once (all_held content) cells, held-counted content)))
    (unused-or-all content cells)
