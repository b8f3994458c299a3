-- Where one of two states that are alike has a free cell, the other has one too.
use Rattle.std.proofs.Common.{◌≡◌, ℕ, zero, suc, ◌+◌, ◌<◌, ◌≤◌, true, cond, List, [], ◌∷◌, length}
use Rattle.std.proofs.Common.{refl, inl, inr, ⊎_elim, arith, eq-eqb}
use Rattle.std.proofs.lemmas.{Bool.{cases_lt, Decides.{nat_tests}}}
use Rattle.std.proofs.lemmas.List.Sums.{sum_by-cons, sum_by_push}
use Rattle.std.specs.{Prelude.{sum_by, count_by, nat_lt}}
use Rattle.dsa_base.specs.{Lists.{In}, Numbers.{numbers_below}}
use Rattle.dsa_base.proofs.{NumberSums.{sum-equal, sum-plus, sum-same, sum-numbers-lt}, Counts.{In-counted}}
use Rattle.dsa_regs.specs.{declared.Caps.{Caps}, Caps.{cell_count}}
use Rattle.dsa_store.specs.Content.{HeldEntry, is_cell, use_count, held_count, all_held, is_free}
use Rattle.dsa_store.{proofs.Sums.{uses-counted, held-counted, is_free-unused}, specs.declared.entry.Cell.{Cell}}
use Rattle.dsa_book.specs.State.{Work}
use Rattle.dsa_laws.specs.WellFormed.{CellsOnce}
use Rattle.dsa_accounts.proofs.UnusedCells.{free-cell}
use Rattle.dsa_keys.proofs.Alike.{Like, Same}
use Rattle.dsa_keys.specs.Labels.{Labels}
use Rattle.dsa_keys.proofs.Both.{both-length, both-held}

abbrev cell_at : ℕ → Cell
cell_at k = record { 0 = k }

one-cell : (x : HeldEntry) (n : ℕ) → sum_by (λ k. cond (is_cell (cell_at k) x) 1 0) (numbers_below n)
    ≡ cond (nat_lt x.0.0 n) 1 0
one-cell x zero = grind (arith, nat_tests)
one-cell x (suc n) = grind (arith, nat_tests, sum_by_push, one-cell x n)

-- each of these entries is in one of the cells
all-counted : (xs : List HeldEntry) (n : ℕ) → ((x : HeldEntry) → In x xs → x.0.0 < n)
    → length xs ≤ sum_by (λ k. count_by (is_cell (cell_at k)) xs) (numbers_below n)
all-counted [] n inside = omega arith
all-counted (x ∷ xs) n inside =
    let here = inside x (inl refl) in
    let one : 1 ≤ cond (nat_lt x.0.0 n) 1 0 = grind (arith, nat_tests, here) in
    let each = sum-equal (λ k. count_by (is_cell (cell_at k)) (x ∷ xs))
    (λ k. cond (is_cell (cell_at k) x) 1 0 + count_by (is_cell (cell_at k)) xs) (numbers_below n)
    (λ k. sum_by-cons (λ s. cond (is_cell (cell_at k) s) 1 0) x xs) in
    omega (
      arith,
      each,
      sum-plus (λ k. cond (is_cell (cell_at k) x) 1 0) (λ k. count_by (is_cell (cell_at k)) xs) n,
      one-cell x n,
      one,
      all-counted xs n (λ y i. inside y (inr i)),
    )

-- with a free cell, fewer are held than there are cells
free-room : (caps : Caps) (w : Work) (cell : Cell) → CellsOnce caps w → is_free (cell_count caps) w.content cell ≡ true
    → held_count w.content < cell_count caps
free-room caps w cell once free =
    let n = cell_count caps in
    let unused = is_free-unused n w.content cell free in
    let inside : (x : HeldEntry) → In x (all_held w.content) → x.0.0 < n = λ x i. ⊎_elim
    (λ l. l)
    (λ l. absurd (omega (
      arith,
      once.inside x.0 l,
      uses-counted w.content x.0,
      In-counted (is_cell x.0) x (all_held w.content) i (eq-eqb x.0.0 x.0.0 refl),
    )))
    (cases_lt x.0.0 n) in
    let less = sum-numbers-lt (λ k. use_count w.content (cell_at k)) (λ k. 1) n cell.0
    (λ k l. once.once (cell_at k)) unused.0
    (omega (arith, unused.1)) in
    let each = sum-equal (λ k. use_count w.content (cell_at k))
    (λ k. count_by (is_cell (cell_at k)) (all_held w.content)) (numbers_below n)
    (λ k. uses-counted w.content (cell_at k)) in
    omega (
      arith,
      less,
      each,
      sum-same 1 n,
      all-counted (all_held w.content) n inside,
      held-counted w.content,
    )

pub free-same : (caps : Caps) (m n : Labels) (w v : Work) (cell : Cell) → CellsOnce caps w → Like m n w v
    → is_free (cell_count caps) w.content cell ≡ true
    → (cell' : Cell) × (is_free (cell_count caps) v.content cell' ≡ true)
free-same caps m n w v cell once like free =
    let long = both-length (Same m n) (all_held w.content) (all_held v.content)
    (both-held (Same m n) w.content v.content like.content) in
    free-cell (cell_count caps) v.content
    (omega (arith, long, free-room caps w cell once free, held-counted w.content, held-counted v.content))
