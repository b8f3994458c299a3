-- A test of all numbers below a bound, number by number.
use Rattle.std.proofs.Common.{◌≡◌, ◌∙◌, ℕ, zero, suc, ◌+◌, ◌<◌, Bool, true, false, [], ◌∷◌, refl, arith, add-one}
use Rattle.std.specs.List.{list_all}
use Rattle.std.proofs.lemmas.{Bool.{and_from}, Grind.{common_steps}, List.Folds.{list_all-append}}
use Rattle.dsa_base.specs.Numbers.{numbers_below}

pub all-next : (p : ℕ → Bool) (n : ℕ) → list_all p (numbers_below n) ≡ true → p n ≡ true
    → list_all p (numbers_below (n + 1)) ≡ true
all-next p n h e = rw add-one (list_all-append p (numbers_below n) (n ∷ []) ∙ and_from _ _ h (and_from (p n) true e refl))

pub all-miss : (p : ℕ → Bool) (n k : ℕ) → k < n → p k ≡ false → list_all p (numbers_below n) ≡ false
all-miss p zero k l e = absurd (omega (arith, l))
all-miss p (suc n) k l e =
    let further : k < n → list_all p (numbers_below n) ≡ false = λ below. all-miss p n k below e in
    grind (arith, common_steps, list_all-append p (numbers_below n) (n ∷ []), further)
