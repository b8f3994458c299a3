-- Filters of lists, and of the numbers below a bound.
use Rattle.std.proofs.Common.{◌≡◌, ℕ, zero, suc, ◌<◌, ◌≤◌, Bool, true, false, cond, List, [], ◌∷◌, ◌++◌, filter}
use Rattle.std.proofs.Common.{length, slice_get, slice_set, Some, refl, sym, ap, ◌∙◌, ⊎_elim, arith}
use Rattle.std.proofs.lemmas.{Bool.{cases_lt}, List.Elements.{filter-append}}
use Rattle.dsa_base.specs.Numbers.{numbers_below}

pub filter-in : {X : Type 0} (p : X → Bool) (x : X) (xs : List X) → p x ≡ true → filter p (x ∷ xs) ≡ x ∷ filter p xs
filter-in p x xs h = ap (λ (b : Bool). cond b (x ∷ filter p xs) (filter p xs)) h

pub filter-out : {X : Type 0} (p : X → Bool) (x : X) (xs : List X) → p x ≡ false → filter p (x ∷ xs) ≡ filter p xs
filter-out p x xs h = ap (λ (b : Bool). cond b (x ∷ filter p xs) (filter p xs)) h

-- no number passes
pub none-below : (p : ℕ → Bool) (n : ℕ) → ((k : ℕ) → k < n → p k ≡ false) → filter p (numbers_below n) ≡ []
none-below p zero h = refl
none-below p (suc n) h = filter-append p (numbers_below n) (n ∷ [])
    ∙ ap (λ xs. xs ++ filter p (n ∷ [])) (none-below p n (λ k l. h k (omega (arith, l))))
    ∙ filter-out p n [] (h n (omega arith))

-- m is the first that passes, and q passes what comes behind it
pub first-below : (p q : ℕ → Bool) (m n : ℕ) → m < n → p m ≡ true → ((k : ℕ) → k < m → p k ≡ false)
    → ((k : ℕ) → k ≤ m → q k ≡ false) → ((k : ℕ) → m < k → p k ≡ q k)
    → filter p (numbers_below n) ≡ m ∷ filter q (numbers_below n)
first-below p q m zero l here before not_yet after = absurd (omega (arith, l))
first-below p q m (suc n) l here before not_yet after = ⊎_elim
    (λ below.
    filter-append p (numbers_below n) (n ∷ [])
    ∙ ap (λ xs. xs ++ filter p (n ∷ [])) (first-below p q m n below here before not_yet after)
    ∙ ap (λ (b : Bool). m ∷ filter q (numbers_below n) ++ cond b (n ∷ []) []) (after n below)
    ∙ ap (λ xs. m ∷ xs) (sym (filter-append q (numbers_below n) (n ∷ []))))
    (λ above.
    let is : n ≡ m = omega (arith, l, above) in
    filter-append p (numbers_below n) (n ∷ [])
    ∙ ap (λ xs. xs ++ filter p (n ∷ [])) (none-below p n (λ k s. before k (omega (arith, s, is))))
    ∙ filter-in p n [] (ap p is ∙ here)
    ∙ ap (λ k. k ∷ []) is
    ∙ ap (λ xs. m ∷ xs) (sym (none-below q (suc n) (λ k s. not_yet k (omega (arith, s, is))))))
    (cases_lt m n)

-- ---- places

pub set-here : {X : Type 0} (xs : List X) (k : ℕ) (x y : X) → slice_get xs k ≡ Some x
    → slice_get (slice_set xs k y) k ≡ Some y
set-here [] k x y e = absurd cc
set-here (z ∷ xs) zero x y e = refl
set-here (z ∷ xs) (suc k) x y e = set-here xs k x y e

pub set-other : {X : Type 0} (xs : List X) (k j : ℕ) (y : X) → (j ≡ k → ⊥)
    → slice_get (slice_set xs k y) j ≡ slice_get xs j
set-other [] k j y ne = refl
set-other (z ∷ xs) zero zero y ne = absurd (ne refl)
set-other (z ∷ xs) zero (suc j) y ne = refl
set-other (z ∷ xs) (suc k) zero y ne = refl
set-other (z ∷ xs) (suc k) (suc j) y ne = set-other xs k j y (λ e. ne (ap suc e))

pub some-at : {X : Type 0} (xs : List X) (k : ℕ) → k < length xs → (x : X) × (slice_get xs k ≡ Some x)
some-at [] k l = absurd (omega (arith, l))
some-at (x ∷ xs) zero l = (x, refl)
some-at (x ∷ xs) (suc k) l = some-at xs k (omega (arith, l))
