-- The first held entry that passes, list by list.
use Rattle.std.proofs.Common.{◌≡◌, ℕ, zero, suc, ◌+◌, ◌<◌, Bool, true, false, List, [], ◌∷◌, length, Option, Some, None}
use Rattle.std.proofs.Common.{refl, sym, ap, ◌∙◌, arith, inl, inr, cond, get_or}
use Rattle.std.proofs.lemmas.Bool.{cases_Bool, cases_lt}
use Rattle.std.proofs.lemmas.List.{Folds.{find-append}, Sums.{take_while-cons}}
use Rattle.std.specs.{Prelude.{is_some, find}, Option.{option_or}, List.{AllPairs, take_while}}
use Rattle.dsa_store.specs.Content.{HeldEntry, Content, chain, all_held}

module _ (p : HeldEntry → Bool) where
  -- where the first list has none, it is one of the others
  skip : (l : List HeldEntry) (ls : Content) → find p l ≡ None → find p (all_held (l ∷ ls)) ≡ find p (all_held ls)
  skip l ls none = find-append p l (all_held ls) ∙ ap (λ (o : Option HeldEntry). option_or o (find p (all_held ls))) none

  hit : (l : List HeldEntry) (ls : Content) (o : Option HeldEntry) → find p l ≡ o → is_some o ≡ true
      → find p l ≡ find p (all_held (l ∷ ls))
  hit l ls None is some = absurd cc
  hit l ls (Some pair) is some =
      is ∙ sym (find-append p l (all_held ls) ∙ ap (λ (o : Option HeldEntry). option_or o (find p (all_held ls))) is)

  -- the first list that has one has the first
  pub first-held : (content : Content) (k : ℕ) → k < length content
      → ((j : ℕ) → j < k → find p (chain content j) ≡ None) → is_some (find p (chain content k)) ≡ true
      → find p (chain content k) ≡ find p (all_held content)
  first-held [] k h none some = absurd (omega (arith, h))
  first-held (l ∷ ls) zero h none some = hit l ls (find p l) refl some
  first-held (l ∷ ls) (suc k) h none some =
      first-held ls k (omega (arith, h)) (λ j less. none (suc j) (omega (arith, less))) some
      ∙ sym (skip l ls (none 0 (omega arith)))

  -- where no list has one there is none
  pub none-held : (content : Content) → ((j : ℕ) → j < length content → find p (chain content j) ≡ None)
      → find p (all_held content) ≡ None
  none-held [] none = refl
  none-held (l ∷ ls) none =
      skip l ls (none 0 (omega arith)) ∙ none-held ls (λ j less. none (suc j) (omega (arith, less)))

-- where there is none
pub no-some : (o : Option HeldEntry) → is_some o ≡ false → o ≡ None
no-some None h = refl
no-some (Some pair) h = absurd cc

-- one list more that has none
pub none-next : (found : ℕ → Option HeldEntry) (n : ℕ) → ((j : ℕ) → j < n → found j ≡ None) → is_some (found n) ≡ false
    → (j : ℕ) → j < n + 1 → found j ≡ None
none-next found n before here j h = elim (cases_lt j n) [
  | inl less ↦ before j less
  | inr more ↦ let same : j ≡ n = omega (arith, h, more) in rw same (no-some (found n) here)
]

-- ---- a walk that ends early

none-later : (p : HeldEntry → Bool) (l : List HeldEntry)
    → ((k : ℕ) (d : HeldEntry) → k < length l → p (get_or l k d) ≡ false) → find p l ≡ None
none-later p [] h = refl
none-later p (x ∷ l) h =
    rw (h 0 x (omega arith)) (none-later p l (λ k d i. h (suc k) d (omega (arith, i))))

-- where none passes from the first on that ends the walk, the walk finds the first that passes
pub find-within : (p within : HeldEntry → Bool) (l : List HeldEntry)
    → ((x : HeldEntry) → within x ≡ false → p x ≡ false)
    → AllPairs (λ x later. within x ≡ false → p later ≡ false) l
    → find p (take_while within l) ≡ find p l
find-within p within [] one pairs = refl
find-within p within (x ∷ l) one pairs = elim (cases_Bool (within x)) [
  | inl on ↦
      let rest = find-within p within l one
      (λ i j d a b. pairs (suc i) (suc j) d (omega (arith, a)) (omega (arith, b))) in
      rw (take_while-cons within x l, on)
      (ap (λ (o : Option HeldEntry). cond (p x) (Some x) o) rest)
  | inr off ↦
      let none =
      none-later p l (λ k d h. pairs 0 (suc k) d (omega arith) (omega (arith, h)) off) in
      rw (take_while-cons within x l, off, one x off, none) refl
]
