use Rattle.dsa_cells.proofs.rows.cells_of_arrays.Goals as goal
use Rattle.std.proofs.Common.{◌≡◌, ◌<◌, ◌≤◌, ℕ, zero, suc, [], ◌∷◌, ap, arith, lit≤, refl}
use Rattle.dsa_cells.specs.Partition.{places}

pub returns-clause-none : goal.returns-clause-none
returns-clause-none c = tt

pub returns-clause-last : goal.returns-clause-last
returns-clause-last c = lit≤ tt

pub returns-clause-no_fourth : goal.returns-clause-no_fourth
returns-clause-no_fourth c there = omega (arith, there)

-- what holds of number 0 holds of each number below 1
below_one : (P : ℕ → Type 0) → P 0 → (k : ℕ) → k < 1 → P k
below_one P holds zero low = holds
below_one P holds (suc k) low = absurd (omega (arith, low))

pub returns-clause-fresh : goal.returns-clause-fresh
returns-clause-fresh c = record { size = refl; each = below_one _ refl }

pub returns-clause-first_of_two : goal.returns-clause-first_of_two
returns-clause-first_of_two c = record { size = refl; each = below_one _ refl }

pub returns-clause-too_few : goal.returns-clause-too_few
returns-clause-too_few c fresh = omega (arith, fresh.size)

pub returns-clause-too_many : goal.returns-clause-too_many
returns-clause-too_many c fresh = omega (arith, fresh.size)

pub returns-clause-another_list : goal.returns-clause-another_list
returns-clause-another_list c fresh = omega (arith, ap (λ node. node.owner) (fresh.each 0 (lit≤ tt)))

-- a list with cell 0 alone names no other
not_zero : (cell : ℕ) → 1 ≤ cell → places ((0 ∷ []) ∷ []) cell ≡ 0
not_zero cell past = grind (arith, past)

pub returns-clause-partition : goal.returns-clause-partition
returns-clause-partition c = record { once = below_one _ refl; only = not_zero }

pub returns-clause-missing : goal.returns-clause-missing
returns-clause-missing c is = omega (arith, is.once 1 (lit≤ tt))

pub returns-clause-past : goal.returns-clause-past
returns-clause-past c is = omega (arith, is.only 1 (lit≤ tt))

pub returns-clause-twice : goal.returns-clause-twice
returns-clause-twice c is = omega (arith, is.once 0 (lit≤ tt))
