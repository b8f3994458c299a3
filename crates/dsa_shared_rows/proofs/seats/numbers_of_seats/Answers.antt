use Rattle.dsa_shared_rows.proofs.seats.numbers_of_seats.Goals as goal
use Rattle.std.proofs.Common.{◌≡◌, ℕ, ◌<◌, ◌==◌, zero, suc, [], ◌∷◌, arith, refl, slice_index_or}
use Rattle.std.specs.Prelude.{count_by}

-- each is below 3
below : (k d : ℕ) → k < 3 → slice_index_or (2 ∷ 0 ∷ 1 ∷ []) k d < 3
below zero d lt = omega arith
below (suc zero) d lt = omega arith
below (suc (suc zero)) d lt = omega arith
below (suc (suc (suc k))) d lt = absurd (omega (arith, lt))

-- and each number below 3 is there once
once : (k : ℕ) → k < 3 → count_by (λ n. k == n) (2 ∷ 0 ∷ 1 ∷ []) ≡ 1
once zero lt = refl
once (suc zero) lt = refl
once (suc (suc zero)) lt = refl
once (suc (suc (suc k))) lt = absurd (omega (arith, lt))

pub returns-clause-three : goal.returns-clause-three
returns-clause-three c = (below, once)

pub returns-clause-one_more : goal.returns-clause-one_more
returns-clause-one_more c is = omega (arith, is.0 2 0 (omega arith))

pub returns-clause-one_lacks : goal.returns-clause-one_lacks
returns-clause-one_lacks c is = omega (arith, is.1 1 (omega arith))

pub returns-clause-one_twice : goal.returns-clause-one_twice
returns-clause-one_twice c is = omega (arith, is.1 0 (omega arith))
