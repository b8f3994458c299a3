-- Members, sums and facts of lists of lists, as each effect changes them.
use Rattle.std.proofs.Common.{drop, ◌≡◌, ℕ, zero, suc, ◌+◌, ◌≤◌, Bool, true, not, List, [], ◌∷◌, ◌++◌}
use Rattle.std.proofs.Common.{map, filter, set, get_or, refl, ap, subst, inr, arith, ⊎_elim, replicate}
use Rattle.std.proofs.lemmas.List.{Sums.{sum_by-cons, sum_by-append}}
use Rattle.std.specs.Prelude.{sum_by, count_by}
use Rattle.dsa_base.proofs.Lists.{In-only, In-left, In-right, In-append, In-filter, get_or-replicated}
use Rattle.dsa_base.{proofs.Counts.{filter-one}, specs.Lists.{In}}
use Rattle.dsa_store.specs.Content.{HeldEntry, Content, chain, all_held, after_push, without_front}
use Rattle.dsa_store.proofs.Sums.{sum-split}
use Rattle.dsa_laws.specs.Lists.{EachAt}

-- ---- members

pub In-chain : (x : HeldEntry) (c : Content) (k : ℕ) → In x (chain c k) → In x (all_held c)
In-chain x [] k i = absurd i
In-chain x (l ∷ ls) zero i = In-left x l (all_held ls) i
In-chain x (l ∷ ls) (suc k) i = In-right x l (all_held ls) (In-chain x ls k i)

-- ---- sums

pub sum-list-le : (f : HeldEntry → ℕ) (c : Content) (k : ℕ) → sum_by f (chain c k) ≤ sum_by f (all_held c)
sum-list-le f [] k = omega arith
sum-list-le f (l ∷ ls) zero = omega (arith, sum_by-append f l (all_held ls))
sum-list-le f (l ∷ ls) (suc k) = omega (arith, sum_by-append f l (all_held ls), sum-list-le f ls k)

pub sum-filter-le : {X : Type 0} (f : X → ℕ) (p : X → Bool) (xs : List X) → sum_by f (filter p xs) ≤ sum_by f xs
sum-filter-le f p xs = omega (arith, sum-split f p xs)

-- without the cell of one that is held, all but it are left
pub sum-without : (f : HeldEntry → ℕ) (p : HeldEntry → Bool) (x : HeldEntry) (xs : List HeldEntry) → count_by p xs ≤ 1 → In x xs
    → p x ≡ true → sum_by f (filter (λ y. not (p y)) xs) + f x ≡ sum_by f xs
sum-without f p x xs h i t =
    omega (arith, sum-split f p xs, ap (sum_by f) (filter-one p x xs h i t), sum_by-cons f x [])

-- ---- one list by its number

-- what holds of each of a list by its place, after one is set
pub each-place : {X : Type 0} (P : ℕ → X → Type 0) (d : X) (xs : List X) (k : ℕ) (x : X)
    → ((j : ℕ) → P j (get_or xs j d)) → P k x → (j : ℕ) → P j (get_or (set xs k x) j d)
each-place P d [] k x a b j = a j
each-place P d (y ∷ ys) zero x a b zero = b
each-place P d (y ∷ ys) zero x a b (suc j) = a (suc j)
each-place P d (y ∷ ys) (suc k) x a b zero = a zero
each-place P d (y ∷ ys) (suc k) x a b (suc j) = each-place (λ i. P (suc i)) d ys k x (λ i. a (suc i)) b j

-- where all lists are empty each is
pub chain-empty : (n k : ℕ) → chain (replicate n []) k ≡ []
chain-empty = get_or-replicated []

-- and nothing is held
pub all_held-empty : (n : ℕ) → all_held (replicate n []) ≡ []
all_held-empty zero = refl
all_held-empty (suc n) = all_held-empty n

-- ---- facts of each list by its number

pub each-set : (P : ℕ → HeldEntry → Type 0) (c : Content) (k : ℕ) (l : List HeldEntry) → EachAt P c
    → ((x : HeldEntry) → In x l → P k x) → EachAt P (set c k l)
each-set P c k l = each-place (λ j l. (x : HeldEntry) → In x l → P j x) [] c k l

pub each-pushed : (P : ℕ → HeldEntry → Type 0) (c : Content) (k : ℕ) (y : HeldEntry) → EachAt P c → P k y
    → EachAt P (after_push c k y.0 y.1)
each-pushed P c k y a p = each-set P c k (chain c k ++ y ∷ []) a
    (λ x i. ⊎_elim (λ j. a k x j) (λ j. subst (P k) (In-only x y j) p) (In-append x (chain c k) (y ∷ []) i))

In-rest : (x : HeldEntry) (xs : List HeldEntry) → In x (drop 1 xs) → In x xs
In-rest x [] i = i
In-rest x (y ∷ ys) i = inr i

pub each-without_front : (P : ℕ → HeldEntry → Type 0) (c : Content) (k : ℕ) → EachAt P c → EachAt P (without_front c k)
each-without_front P c k a = each-set P c k (drop 1 (chain c k)) a (λ x i. a k x (In-rest x (chain c k) i))

pub chain-filtered : (p : HeldEntry → Bool) (c : Content) (k : ℕ) → chain (map (filter p) c) k ≡ filter p (chain c k)
chain-filtered p [] k = refl
chain-filtered p (l ∷ ls) zero = refl
chain-filtered p (l ∷ ls) (suc k) = chain-filtered p ls k

pub In-filtered : (p : HeldEntry → Bool) (c : Content) (k : ℕ) (x : HeldEntry) → In x (chain (map (filter p) c) k)
    → In x (chain c k) × (p x ≡ true)
In-filtered p c k x i = In-filter p x (chain c k) (subst (λ l. In x l) (chain-filtered p c k) i)

pub each-filtered : (P : ℕ → HeldEntry → Type 0) (p : HeldEntry → Bool) (c : Content) → EachAt P c → EachAt P (map (filter p) c)
each-filtered P p c a = λ k x i. a k x (In-filtered p c k x i).0
