-- The numbers below a bound, and numbers beside powers of two.
use Rattle.std.proofs.Common.{◌≡◌, ℕ, zero, suc, ◌<◌, ◌/◌, nat_eq, nat_le, not, Bool, true, false, ◌||◌, [], ◌∷◌, arith}
use Rattle.std.proofs.lemmas.{Grind.{common_steps}, List.Folds.{list_any-append}}
use Rattle.std.{proofs.Math.Nat.{div-eq_of_lt, lt-div-mul-add}, specs.List.{list_any}}
use Rattle.dsa_base.specs.Numbers.{numbers_below}

-- a number below the bound that passes a test
pub numbers_below-hit : (p : ℕ → Bool) (n k : ℕ) → k < n → p k ≡ true → list_any p (numbers_below n) ≡ true
numbers_below-hit p zero k h e = absurd (omega arith)
numbers_below-hit p (suc n) k h e =
    let further : k < n → list_any p (numbers_below n) ≡ true = λ below. numbers_below-hit p n k below e in
    grind (arith, common_steps, list_any-append p (numbers_below n) (n ∷ []), further)

-- where no number below the bound passes, each fails
pub numbers_below-miss : (p : ℕ → Bool) (n k : ℕ) → list_any p (numbers_below n) ≡ false → k < n → p k ≡ false
numbers_below-miss p zero k h l = absurd (omega (arith, l))
numbers_below-miss p (suc n) k h l =
    let both : list_any p (numbers_below (suc n)) ≡ (list_any p (numbers_below n) || list_any p (n ∷ [])) =
    list_any-append p (numbers_below n) (n ∷ []) in
    let further : k < n → p k ≡ false =
    λ below. numbers_below-miss p n k (grind (arith, common_steps, both, h)) below in
    grind (arith, common_steps, both, h, further)

-- what a shift by a power leaves
pub div-none : (n p : ℕ) → 0 < p → not (nat_eq (n / p) 0) ≡ nat_le p n
div-none n p h = grind (arith, common_steps, div-eq_of_lt {n = n} {m = p}, lt-div-mul-add {a = n} {b = p} h)
