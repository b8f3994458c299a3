-- A test that few elements of a list pass.
use Rattle.std.proofs.Common.{take, length, filter, get_or, Some, refl, ap, ◌∙◌, subst, inl, inr, ⊎_elim, arith}
use Rattle.std.proofs.Common.{◌≡◌, ℕ, zero, suc, ◌+◌, ◌<◌, ◌≤◌, Bool, true, false, cond, ◌||◌, List, [], ◌∷◌, ◌++◌, sym}
use Rattle.std.proofs.lemmas.List.Sums.{sum_by-cons, sum_by_push, get_or-le-sum_by, length-filter, count_by-le-length}
use Rattle.std.specs.{Prelude.{count_by}, List.{list_any, position}}
use Rattle.dsa_base.proofs.Lists.{none-In, length-none, In-length, In-only, In-alone, In-push, In-filter, In-passing}
use Rattle.dsa_base.{proofs.{FirstPlaces.{position-hit}, Tables.{not-both}}, specs.Lists.{In}}

-- one more is counted where it passes
pub count-cons : {X : Type 0} (p : X → Bool) (x : X) (xs : List X) (b : Bool) → p x ≡ b
    → count_by p (x ∷ xs) ≡ cond b 1 0 + count_by p xs
count-cons p x xs b is = sum_by-cons (λ y. cond (p y) 1 0) x xs ∙ ap (λ (t : Bool). cond t 1 0 + count_by p xs) is

pub count-push : {X : Type 0} (p : X → Bool) (xs : List X) (x : X) (b : Bool) → p x ≡ b
    → count_by p (xs ++ x ∷ []) ≡ count_by p xs + cond b 1 0
count-push p xs x b is = sum_by_push (λ y. cond (p y) 1 0) xs x ∙ ap (λ (t : Bool). count_by p xs + cond t 1 0) is

-- a filter leaves no more than there is
pub length-filter-le : {X : Type 0} (p : X → Bool) (xs : List X) → length (filter p xs) ≤ length xs
length-filter-le p xs = omega (arith, length-filter p xs, count_by-le-length p xs)

-- and nothing where none passes
pub filter-none : {X : Type 0} (p : X → Bool) (xs : List X) → count_by p xs ≡ 0 → filter p xs ≡ []
filter-none p xs h = length-none (filter p xs) (omega (arith, length-filter p xs, h))

-- where a test passes once at most, the one that passes is all that passes
pub filter-one : {X : Type 0} (p : X → Bool) (x : X) (xs : List X) → count_by p xs ≤ 1 → In x xs → p x ≡ true
    → filter p xs ≡ x ∷ []
filter-one p x xs h i t =
    In-alone x (filter p xs) (omega (arith, length-filter p xs, h)) (In-passing p x xs i t)

-- so what passes is the same
pub In-same : {X : Type 0} (p : X → Bool) (x y : X) (xs : List X) → count_by p xs ≤ 1 → In x xs → In y xs
    → p x ≡ true → p y ≡ true → x ≡ y
In-same p x y xs h i j t u = In-only y x (subst (In y) (filter-one p x xs h i t) (In-passing p y xs j u))

-- what stands there and passes is counted
pub In-counted : {X : Type 0} (p : X → Bool) (x : X) (xs : List X) → In x xs → p x ≡ true → 1 ≤ count_by p xs
In-counted p x xs i t = omega (arith, length-filter p xs, In-length x (filter p xs) (In-passing p x xs i t))

-- where a test is counted, one passes it
pub counted-In : {X : Type 0} (p : X → Bool) (xs : List X) → 1 ≤ count_by p xs → (x : X) × (In x xs × (p x ≡ true))
counted-In {X} p xs h = go (filter p xs) refl
  where
    go : (ys : List X) → filter p xs ≡ ys → (x : X) × (In x xs × (p x ≡ true))
    go [] e = absurd (omega (arith, sym (length-filter p xs) ∙ ap length e, h))
    go (y ∷ ys) e = (y, In-filter p y xs (subst (In y) (sym e) (inl refl)))

-- where none passes, none is counted
pub count-none : {X : Type 0} (p : X → Bool) (xs : List X) → ((x : X) → In x xs → p x ≡ false) → count_by p xs ≡ 0
count-none p xs h =
    sym (length-filter p xs) ∙ ap length (none-In (filter p xs) (λ x i. let r = In-filter p x xs i in
    not-both (p x) r.1 (h x r.0)))

-- two tests that pass the same count the same
pub count-alike : {X : Type 0} (p q : X → Bool) (xs : List X) → ((x : X) → In x xs → p x ≡ q x)
    → count_by p xs ≡ count_by q xs
count-alike p q [] h = refl
count-alike p q (x ∷ xs) h =
    omega (arith, count-cons p x xs (q x) (h x (inl refl)), sum_by-cons, count-alike p q xs (λ y i. h y (inr i)))

-- what passes a test that the one more does not pass stands in the list
pub In-old : {X : Type 0} (p : X → Bool) (x : X) (xs : List X) (y : X) → p y ≡ false → In x (xs ++ y ∷ [])
    → p x ≡ true → In x xs
In-old p x xs y n i t = ⊎_elim (λ j. j) (λ e. not-both (p x) t (ap p (sym e) ∙ n)) (In-push x xs y i)

-- where one passes, at least one is counted
pub some-counted : {X : Type 0} (p : X → Bool) (xs : List X) (j : ℕ) (d : X)
    → j < length xs → p (get_or xs j d) ≡ true → 1 ≤ count_by p xs
some-counted p xs j d l t =
    let one : ◌≡◌ {A = ℕ} (cond (p (get_or xs j d)) 1 0) 1 = ap (λ (b : Bool). cond {A = ℕ} b 1 0) t in
    omega (arith, one, get_or-le-sum_by (λ x. cond (p x) 1 0) xs j d l)

-- where a test passes once at most, it passes at one place
pub one-place : {X : Type 0} (p : X → Bool) (xs : List X) (i j : ℕ) (d : X) → count_by p xs ≤ 1
    → i < length xs → j < length xs → p (get_or xs i d) ≡ true → p (get_or xs j d) ≡ true → i ≡ j
one-place p [] i j d h k l t u = absurd (omega (arith, k))
one-place p (x ∷ xs) zero zero d h k l t u = refl
one-place p (x ∷ xs) zero (suc j) d h k l t u =
    absurd (omega (arith, h, count-cons p x xs true t, some-counted p xs j d (omega (arith, l)) u))
one-place p (x ∷ xs) (suc i) zero d h k l t u =
    absurd (omega (arith, h, count-cons p x xs true u, some-counted p xs i d (omega (arith, k)) t))
one-place p (x ∷ xs) (suc i) (suc j) d h k l t u =
    ap suc (one-place p xs i j d (omega (arith, h, sum_by-cons)) (omega (arith, k)) (omega (arith, l)) t u)

-- what one counts already leaves nothing before it
before-test : (a b : Bool) → cond a 1 0 + 1 ≤ 1 → b ≡ false → (a || b) ≡ false
before-test true b h e = absurd (omega (arith, h))
before-test false b h e = e

none-before : {X : Type 0} (p : X → Bool) (xs : List X) (k : ℕ) (d : X)
    → count_by p xs ≤ 1 → k < length xs → p (get_or xs k d) ≡ true → list_any p (take k xs) ≡ false
none-before p [] k d h l t = absurd (omega (arith, l))
none-before p (x ∷ xs) zero d h l t = refl
none-before p (x ∷ xs) (suc k) d h l t =
    let rest = some-counted p xs k d (omega (arith, l)) t in
    before-test (p x) (list_any p (take k xs)) (omega (arith, sum_by-cons, h, rest))
    (none-before p xs k d (omega (arith, sum_by-cons, h)) (omega (arith, l)) t)

-- what passes a test that one passes at most is the first that does
pub only-position : {X : Type 0} (p : X → Bool) (xs : List X) (k : ℕ) (d : X)
    → count_by p xs ≤ 1 → k < length xs → p (get_or xs k d) ≡ true → position p xs ≡ Some k
only-position p xs k d h l t = position-hit p xs k d l (none-before p xs k d h l t) t
