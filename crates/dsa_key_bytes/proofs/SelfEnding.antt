-- Numbers that say where they end: what begins with those of one thing begins with those of no other.
use Rattle.std.proofs.Common.{◌≡◌, ℕ, suc, List, [], ◌∷◌, ◌++◌, length, None, Some, refl, ap, sym, ◌∙◌}
use Rattle.std.specs.List.{flat_map}
use Rattle.std.proofs.lemmas.List.{append_assoc}
use Rattle.dsa_key_bytes.specs.KeyBytes.{with_count, with_end, optional}

abbrev pub IsSelfEnding : {A : Type 0} → (A → List ℕ) → Type 0
IsSelfEnding {A} numbers = (x y : A) (r s : List ℕ) → numbers x ++ r ≡ numbers y ++ s → (x ≡ y) × (r ≡ s)

-- the first number is not 0
abbrev pub BeginsAboveZero : {A : Type 0} → (A → List ℕ) → Type 0
BeginsAboveZero {A} numbers = (x : A) (r : List ℕ) → (n : ℕ) × (rest : List ℕ) × (numbers x ++ r ≡ suc n ∷ rest)

module _ {A : Type 0} (numbers : A → List ℕ) (self : IsSelfEnding numbers) where
  -- as many of them
  as-many : (xs ys : List A) (r s : List ℕ) → length xs ≡ length ys
      → flat_map numbers xs ++ r ≡ flat_map numbers ys ++ s → (xs ≡ ys) × (r ≡ s)
  as-many [] [] r s many e = (refl, e)
  as-many [] (y ∷ ys) r s many e = absurd (cc)
  as-many (x ∷ xs) [] r s many e = absurd (cc)
  as-many (x ∷ xs) (y ∷ ys) r s many e =
      let first : (x ≡ y) × (flat_map numbers xs ++ r ≡ flat_map numbers ys ++ s)
      = self x y (flat_map numbers xs ++ r) (flat_map numbers ys ++ s)
      (sym (append_assoc (numbers x) (flat_map numbers xs) r) ∙ e
      ∙ append_assoc (numbers y) (flat_map numbers ys) s) in
      let fewer : length xs ≡ length ys = cc in
      let rest : (xs ≡ ys) × (r ≡ s) = as-many xs ys r s fewer first.1 in
      ((λ j. first.0 j ∷ rest.0 j), rest.1)

  pub with_count-ends : IsSelfEnding (with_count numbers)
  with_count-ends xs ys r s e =
      let many : length xs ≡ length ys = cc in
      let all : flat_map numbers xs ++ r ≡ flat_map numbers ys ++ s = cc in
      as-many xs ys r s many all

  pub optional-ends : IsSelfEnding (optional numbers)
  optional-ends None None r s e = let rest : r ≡ s = cc in (refl, rest)
  optional-ends None (Some y) r s e = absurd (cc)
  optional-ends (Some x) None r s e = absurd (cc)
  optional-ends (Some x) (Some y) r s e =
      let all : numbers x ++ r ≡ numbers y ++ s = cc in
      let same : (x ≡ y) × (r ≡ s) = self x y r s all in
      (ap (λ (v : A). Some v) same.0, same.1)

  -- up to a 0
  up-to-zero : BeginsAboveZero numbers → (xs ys : List A) (r s : List ℕ)
      → flat_map numbers xs ++ (0 ∷ r) ≡ flat_map numbers ys ++ (0 ∷ s) → (xs ≡ ys) × (r ≡ s)
  up-to-zero above [] [] r s e = let rest : r ≡ s = cc in (refl, rest)
  up-to-zero above [] (y ∷ ys) r s e =
      let first = above y (flat_map numbers ys ++ (0 ∷ s)) in
      let apart : 0 ∷ r ≡ suc first.0 ∷ first.1
      = e ∙ append_assoc (numbers y) (flat_map numbers ys) (0 ∷ s) ∙ first.2 in absurd (cc)
  up-to-zero above (x ∷ xs) [] r s e =
      let first = above x (flat_map numbers xs ++ (0 ∷ r)) in
      let apart : 0 ∷ s ≡ suc first.0 ∷ first.1
      = sym e ∙ append_assoc (numbers x) (flat_map numbers xs) (0 ∷ r) ∙ first.2 in absurd (cc)
  up-to-zero above (x ∷ xs) (y ∷ ys) r s e =
      let first : (x ≡ y) × (flat_map numbers xs ++ (0 ∷ r) ≡ flat_map numbers ys ++ (0 ∷ s))
      = self x y (flat_map numbers xs ++ (0 ∷ r)) (flat_map numbers ys ++ (0 ∷ s))
      (sym (append_assoc (numbers x) (flat_map numbers xs) (0 ∷ r)) ∙ e
      ∙ append_assoc (numbers y) (flat_map numbers ys) (0 ∷ s)) in
      let rest : (xs ≡ ys) × (r ≡ s) = up-to-zero above xs ys r s first.1 in
      ((λ j. first.0 j ∷ rest.0 j), rest.1)

  pub with_end-ends : BeginsAboveZero numbers → IsSelfEnding (with_end numbers)
  with_end-ends above xs ys r s e = up-to-zero above xs ys r s
      (sym (append_assoc (flat_map numbers xs) (0 ∷ []) r) ∙ e ∙ append_assoc (flat_map numbers ys) (0 ∷ []) s)

-- one after the other
pub both-end : {A B : Type 0} (first : A → List ℕ) (second : B → List ℕ) → IsSelfEnding first → IsSelfEnding second
    → (x y : A) (v w : B) (r s : List ℕ) → (first x ++ second v) ++ r ≡ (first y ++ second w) ++ s
    → (x ≡ y) × (v ≡ w) × (r ≡ s)
both-end first second one other x y v w r s e =
    let all : (x ≡ y) × (second v ++ r ≡ second w ++ s) = one x y (second v ++ r) (second w ++ s)
    (sym (append_assoc (first x) (second v) r) ∙ e ∙ append_assoc (first y) (second w) s) in
    let rest : (v ≡ w) × (r ≡ s) = other v w r s all.1 in
    (all.0, rest.0, rest.1)

pub pair-ends : {A B : Type 0} (first : A → List ℕ) (second : B → List ℕ) → IsSelfEnding first → IsSelfEnding second
    → IsSelfEnding {A = A × B} (λ both. first both.0 ++ second both.1)
pair-ends first second one other x y r s e =
    let all = both-end first second one other x.0 y.0 x.1 y.1 r s e in
    ((λ j. (all.0 j, all.1 j)), all.2)

-- equal numbers are those of equal things
pub all-apart : {A : Type 0} (numbers : A → List ℕ) → IsSelfEnding numbers → (x y : A) → numbers x ≡ numbers y → x ≡ y
all-apart numbers self x y e = (self x y [] [] (ap (λ all. all ++ []) e)).0
