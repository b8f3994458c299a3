-- What stands in a list.
use Rattle.std.proofs.Common.{filter, get_or, replicate, refl, sym, ap, ◌∙◌, subst, ◌⊎◌, inl, inr, ⊎_elim, arith}
use Rattle.std.proofs.Common.{◌≡◌, ℕ, zero, suc, ◌≤◌, Bool, true, false, cond, ◌||◌, List, [], ◌∷◌, ◌++◌, length, Some}
use Rattle.std.{specs.{Prelude.{find, slice_get}, List.{list_any}}, proofs.lemmas.Bool.{or_left, or_right}}
use Rattle.dsa_base.specs.Lists.{In}

-- a list in which nothing stands is empty
pub none-In : {X : Type 0} (xs : List X) → ((x : X) → In x xs → ⊥) → xs ≡ []
none-In [] h = refl
none-In (x ∷ xs) h = absurd (h x (inl refl))

-- and so is one that has no length
pub length-none : {X : Type 0} (xs : List X) → length xs ≤ 0 → xs ≡ []
length-none [] h = refl
length-none (x ∷ xs) h = absurd (omega (arith, h))

-- where one stands there is a length
pub In-length : {X : Type 0} (x : X) (xs : List X) → In x xs → 1 ≤ length xs
In-length x [] i = absurd i
In-length x (y ∷ ys) i = omega arith

-- what stands in a list of one is that one
pub In-only : {X : Type 0} (x y : X) → In x (y ∷ []) → y ≡ x
In-only x y (inl e) = e
In-only x y (inr i) = absurd i

-- a list of at most one, in which one stands
pub In-alone : {X : Type 0} (x : X) (xs : List X) → length xs ≤ 1 → In x xs → xs ≡ x ∷ []
In-alone x [] h i = absurd i
In-alone x (y ∷ []) h i = ap (λ z. z ∷ []) (In-only x y i)
In-alone x (y ∷ z ∷ zs) h i = absurd (omega (arith, h))

-- the front stands in its list
pub In-front : {X : Type 0} (x : X) (xs : List X) → slice_get xs 0 ≡ Some x → In x xs
In-front x [] h = absurd cc
In-front x (y ∷ ys) h = inl cc

-- what stands in one of two lists stands in both together
pub In-left : {X : Type 0} (x : X) (xs ys : List X) → In x xs → In x (xs ++ ys)
In-left x [] ys i = absurd i
In-left x (z ∷ xs) ys (inl e) = inl e
In-left x (z ∷ xs) ys (inr i) = inr (In-left x xs ys i)

pub In-right : {X : Type 0} (x : X) (xs ys : List X) → In x ys → In x (xs ++ ys)
In-right x [] ys i = i
In-right x (z ∷ xs) ys i = inr (In-right x xs ys i)

-- and the other way round
pub In-append : {X : Type 0} (x : X) (xs ys : List X) → In x (xs ++ ys) → In x xs ⊎ In x ys
In-append x [] ys i = inr i
In-append x (z ∷ xs) ys (inl e) = inl (inl e)
In-append x (z ∷ xs) ys (inr i) = ⊎_elim (λ a. inl (inr a)) (λ b. inr b) (In-append x xs ys i)

-- one of a list with one more at its end stands in the list, or is that one
pub In-push : {X : Type 0} (x : X) (xs : List X) (y : X) → In x (xs ++ y ∷ []) → In x xs ⊎ (y ≡ x)
In-push x xs y i = ⊎_elim (λ j. inl j) (λ j. inr (In-only x y j)) (In-append x xs (y ∷ []) i)

-- what a filter leaves passes its test
pub In-filter : {X : Type 0} (p : X → Bool) (x : X) (xs : List X) → In x (filter p xs) → In x xs × (p x ≡ true)
In-filter p x [] i = absurd i
In-filter {X} p x (y ∷ ys) i = go (λ j. In-filter p x ys j) (p y) refl i
  where
    go : (In x (filter p ys) → In x ys × (p x ≡ true)) → (b : Bool) → p y ≡ b
        → In x (cond b (y ∷ filter p ys) (filter p ys))
        → In x (y ∷ ys) × (p x ≡ true)
    go more true q (inl e) = (inl e, ap p (sym e) ∙ q)
    go more true q (inr i) = let r = more i in (inr r.0, r.1)
    go more false q i = let r = more i in (inr r.0, r.1)

-- and what passes it is left
pub In-passing : {X : Type 0} (p : X → Bool) (x : X) (xs : List X) → In x xs → p x ≡ true → In x (filter p xs)
In-passing p x [] i t = absurd i
In-passing p x (y ∷ ys) (inl e) t = subst (λ (b : Bool). In x (cond b (y ∷ filter p ys) (filter p ys)))
    (sym (ap p e ∙ t)) (inl e)
In-passing p x (y ∷ ys) (inr i) t = go (p y) (In-passing p x ys i t)
  where
    go : (b : Bool) → In x (filter p ys) → In x (cond b (y ∷ filter p ys) (filter p ys))
    go true j = inr j
    go false j = j

-- what is found passes the test
pub In-find : {X : Type 0} (p : X → Bool) (x : X) (xs : List X) → find p xs ≡ Some x → In x xs × (p x ≡ true)
In-find p x [] h = absurd cc
In-find {X} p x (y ∷ ys) h = go (λ e. In-find p x ys e) (p y) refl h
  where
    go : (find p ys ≡ Some x → In x ys × (p x ≡ true)) → (b : Bool) → p y ≡ b → cond b (Some y) (find p ys) ≡ Some x
        → In x (y ∷ ys) × (p x ≡ true)
    go more true q e = let same : y ≡ x = cc in (inl same, ap p (sym same) ∙ q)
    go more false q e = let r = more e in (inr r.0, r.1)

-- where any passes, one that passes stands there
pub any-In : {X : Type 0} (p : X → Bool) (xs : List X) → list_any p xs ≡ true → (x : X) × (In x xs × (p x ≡ true))
any-In p [] h = absurd cc
any-In {X} p (x ∷ xs) h = go (any-In p xs) (p x) refl h
  where
    go : (list_any p xs ≡ true → (y : X) × (In y xs × (p y ≡ true))) → (b : Bool) → p x ≡ b
        → (b || list_any p xs) ≡ true
        → (y : X) × (In y (x ∷ xs) × (p y ≡ true))
    go more true q h = (x, (inl refl, q))
    go more false q h = let r = more h in (r.0, (inr r.1.0, r.1.1))

pub In-any : {X : Type 0} (p : X → Bool) (x : X) (xs : List X) → In x xs → p x ≡ true → list_any p xs ≡ true
In-any p x [] i t = absurd i
In-any p x (y ∷ ys) (inl e) t = or_left (p y) (list_any p ys) (ap p e ∙ t)
In-any p x (y ∷ ys) (inr i) t = or_right (p y) (list_any p ys) (In-any p x ys i t)

-- each place of a list of one value has that value, and so has what is past it
pub get_or-replicated : {X : Type 0} (x : X) (n i : ℕ) → get_or (replicate n x) i x ≡ x
get_or-replicated x zero i = refl
get_or-replicated x (suc n) zero = refl
get_or-replicated x (suc n) (suc i) = get_or-replicated x n i
