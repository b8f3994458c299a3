-- Rows one after another, and the first that is called so.
use Rattle.std.proofs.Common.{◌≡◌, ◌<◌, ◌≤◌, ◌+◌, ◌∙◌, ℕ, zero, suc, Bool, true, false, List, [], ◌∷◌, ◌++◌, length}
use Rattle.std.proofs.Common.{drop, take, get_or, add-one, ap, append_assoc, refl, sym, subst, inl, inr, arith}
use Rattle.std.proofs.lemmas.List.{append-nil, drop_all, drop_more, flat_map_more, take_all, take_more}
use Rattle.std.specs.Prelude.{filter, flat_map}
use Rattle.dsa_base.{specs.{Lists.{In}, Numbers.{numbers_below}}, proofs.Lists.{In-push}}
use Rattle.dsa_explore.specs.declared.found.Found.{Found}
use Rattle.dsa_tables.specs.Naming.{row_name, HasNoRowNamed, IsFirstNamed}

module _ {X : Type 0} (p : X → Bool) (xs : List X) (i : ℕ) where
  -- one more, which the test passes
  pub passed-more : (d : X) (old new whole : List X) → i < length xs → p (get_or xs i d) ≡ true
      → new ≡ old ++ get_or xs i d ∷ [] → old ++ filter p (drop i xs) ≡ whole
      → new ++ filter p (drop (i + 1) xs) ≡ whole
  passed-more d old new whole inside is e h =
      let x = get_or xs i d in
      let rest = filter p (drop (i + 1) xs) in
      let far : old ++ x ∷ rest ≡ whole = rw (drop_more xs i d inside, is) at h in
      rw e (append_assoc old (x ∷ []) rest ∙ far)

  -- one more, which it does not
  pub passed-not : (d : X) (old whole : List X) → i < length xs → p (get_or xs i d) ≡ false
      → old ++ filter p (drop i xs) ≡ whole → old ++ filter p (drop (i + 1) xs) ≡ whole
  passed-not d old whole inside is h = rw (drop_more xs i d inside, is) at h

  -- no more
  pub passed-all : (old whole : List X) → length xs ≤ i → old ++ filter p (drop i xs) ≡ whole → old ≡ whole
  passed-all old whole past h =
      let far : old ++ [] ≡ whole = rw (drop_all i xs past) at h in
      sym (append-nil old) ∙ far

-- the rows of the numbers below, and of one more
pub numbers-more : {X : Type 0} (f : ℕ → List X) (n : ℕ) (o rows new : List X)
    → rows ≡ o ++ flat_map f (numbers_below n) → new ≡ rows ++ f n → new ≡ o ++ flat_map f (numbers_below (n + 1))
numbers-more f n o rows new h e =
    rw add-one (e ∙ ap (λ l. l ++ f n) h ∙ flat_map_more f o (numbers_below n) n)

-- a list is what stands before a place, that place, and what stands behind it
parts-at : {X : Type 0} (xs : List X) (i : ℕ) (d : X) → i < length xs
    → xs ≡ take i xs ++ get_or xs i d ∷ drop (i + 1) xs
parts-at [] i d inside = absurd (omega (arith, inside))
parts-at (y ∷ ys) zero d inside = refl
parts-at (y ∷ ys) (suc i) d inside =
    rw add-one (ap (λ l. y ∷ l) (rw add-one at (parts-at ys i d (omega (arith, inside)))))

module _ (labels acts : List (List ℕ)) (rows : List Found) (name : List ℕ) (i : ℕ) where
  -- the row of this place is the first that is called so
  pub first-named : (d : Found) → i < length rows → HasNoRowNamed labels acts (take i rows) name
      → row_name labels acts (get_or rows i d).finding ≡ name
      → IsFirstNamed labels acts rows name (get_or rows i d)
  first-named d inside none named = record {
    before = take i rows;
    after = drop (i + 1) rows;
    parts = parts-at rows i d inside;
    named = named;
    others = none;
  }

  -- it is not called so, nor are those before it
  pub none-more : (d : Found) → i < length rows → HasNoRowNamed labels acts (take i rows) name
      → (row_name labels acts (get_or rows i d).finding ≡ name → ⊥)
      → HasNoRowNamed labels acts (take (i + 1) rows) name
  none-more d inside none other = λ r within.
      elim (In-push r (take i rows) (get_or rows i d)
      (subst (λ (l : List Found). In r l) (take_more rows i d inside) within)) [
        | inl earlier ↦ none r earlier
        | inr same ↦ λ named. other
            (subst (λ (z : Found). row_name labels acts z.finding ≡ name) (sym same) named)
      ]

  -- none is called so
  pub none-named : length rows ≤ i → HasNoRowNamed labels acts (take i rows) name
      → HasNoRowNamed labels acts rows name
  none-named past none = subst (λ (l : List Found). HasNoRowNamed labels acts l name) (take_all i rows past) none
