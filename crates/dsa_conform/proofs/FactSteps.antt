-- The first number below a bound that passes.
use Rattle.std.proofs.Common.{◌≡◌, ◌<◌, ◌≤◌, ◌⊎◌, ℕ, zero, suc, ◌+◌, Bool, true, false, [], ◌∷◌, refl, subst, inl, inr}
use Rattle.std.proofs.Common.{Some, None, find, arith, add-one}
use Rattle.std.proofs.lemmas.{Bool.{cases_lt}, List.Folds.{find-append}}
use Rattle.dsa_base.specs.Numbers.{numbers_below}

-- none of the numbers below passes, nor one more
pub none_found : (p : ℕ → Bool) (n : ℕ) → find p (numbers_below n) ≡ None → p n ≡ false
    → find p (numbers_below (n + 1)) ≡ None
none_found p n none here = rw (add-one, find-append p (numbers_below n) (n ∷ []), none, here) refl

-- none of the numbers below passes, and this one does
pub one_found : (p : ℕ → Bool) (n k : ℕ) → k < n → find p (numbers_below k) ≡ None → p k ≡ true
    → find p (numbers_below n) ≡ Some k
one_found p zero k inside none here = absurd (omega (arith, inside))
one_found p (suc n) k inside none here =
    let further : k < n → find p (numbers_below n) ≡ Some k = λ below. one_found p n k below none here in
    go further (cases_lt k n)
  where
    go : (k < n → find p (numbers_below n) ≡ Some k) → (k < n) ⊎ (n ≤ k)
        → find p (numbers_below (suc n)) ≡ Some k
    go further (inl below) = rw (find-append p (numbers_below n) (n ∷ []), further below) refl
    go further (inr least) =
        let same : k ≡ n = omega (arith, inside, least) in
        subst (λ m. find p (numbers_below (suc m)) ≡ Some k) same
        (rw (find-append p (numbers_below k) (k ∷ []), none, here) refl)
