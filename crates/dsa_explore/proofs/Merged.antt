-- Rows of several walks in one list.
use Rattle.std.proofs.Common.{◌≡◌, ◌⊎◌, ℕ, zero, suc, ◌+◌, ◌<◌, ◌≤◌, List, [], ◌∷◌, ◌++◌, Some, refl, sym, ap, ◌∙◌}
use Rattle.std.proofs.Common.{subst}
use Rattle.std.proofs.Common.{length, take, get_or, inl, inr, ⊎_elim, arith}
use Rattle.std.specs.Prelude.{slice_get, slice_set}
use Rattle.std.proofs.lemmas.{List.{take_more}, Option.{same_Some}}
use Rattle.dsa_base.{specs.Lists.{In}, proofs.Lists.{In-left, In-right, In-push}}
use Rattle.dsa_explore.specs.declared.found.{Finding.{Finding}, Found.{Found}}
use Rattle.dsa_explore.specs.{Explored.{IsFound}, Walking.{AreMerged}}
use Rattle.dsa_explore.proofs.Growth.{In-get, get-push}

-- ---- one place that is set

get-set : {X : Type 0} (xs : List X) (i : ℕ) (x : X) (j : ℕ) (y : X) → slice_get (slice_set xs i x) j ≡ Some y
    → ((j ≡ i) × (x ≡ y)) ⊎ ((j ≡ i → ⊥) × (slice_get xs j ≡ Some y))
get-set [] i x j y h = absurd cc
get-set (z ∷ xs) zero x zero y h = inl (refl, same_Some x y h)
get-set (z ∷ xs) zero x (suc j) y h = inr (λ e. absurd (omega (arith, e)), h)
get-set (z ∷ xs) (suc i) x zero y h = inr (λ e. absurd (omega (arith, e)), h)
get-set (z ∷ xs) (suc i) x (suc j) y h = ⊎_elim
    (λ p. inl (ap (λ n. suc n) p.0, p.1))
    (λ p. inr (λ e. p.0 (omega (arith, e)), p.1)) (get-set xs i x j y h)

In-set : {X : Type 0} (xs : List X) (i : ℕ) (x y : X) → In y (slice_set xs i x) → In y xs ⊎ (x ≡ y)
In-set [] i x y h = absurd h
In-set (z ∷ xs) zero x y (inl e) = inr e
In-set (z ∷ xs) zero x y (inr h) = inl (inr h)
In-set (z ∷ xs) (suc i) x y (inl e) = inl (inl e)
In-set (z ∷ xs) (suc i) x y (inr h) = ⊎_elim (λ j. inl (inr j)) (λ e. inr e) (In-set xs i x y h)

set-In : {X : Type 0} (xs : List X) (i : ℕ) (x o : X) → slice_get xs i ≡ Some o → In x (slice_set xs i x)
set-In [] i x o h = absurd cc
set-In (z ∷ xs) zero x o h = inl refl
set-In (z ∷ xs) (suc i) x o h = inr (set-In xs i x o h)

-- what was there is, or was at this place
In-kept : {X : Type 0} (xs : List X) (i : ℕ) (x o y : X) → slice_get xs i ≡ Some o → In y xs
    → In y (slice_set xs i x) ⊎ (o ≡ y)
In-kept [] i x o y h within = absurd within
In-kept (z ∷ xs) zero x o y h (inl e) = inr (sym (same_Some z o h) ∙ e)
In-kept (z ∷ xs) zero x o y h (inr j) = inl (inr j)
In-kept (z ∷ xs) (suc i) x o y h (inl e) = inl (inl e)
In-kept (z ∷ xs) (suc i) x o y h (inr j) = ⊎_elim (λ k. inl (inr k)) (λ e. inr e) (In-kept xs i x o y h j)

-- ---- findings that are found

pub found-here : (rows : List Found) (row : Found) → In row rows → IsFound rows row.steps row.finding
found-here rows row i = record { row = row; within = i; same = refl; soon = omega arith }

found-by : (rows : List Found) (a b : Found) → In a rows → a.finding ≡ b.finding → a.steps ≤ b.steps
    → IsFound rows b.steps b.finding
found-by rows a b i same soon = record { row = a; within = i; same = same; soon = soon }

-- what is found as each row says is found as soon
pub found-through : (old new : List Found)
    → ((row : Found) → In row old → IsFound new row.steps row.finding) → (steps : ℕ) (finding : Finding)
    → IsFound old steps finding → IsFound new steps finding
found-through old new kept steps finding f =
    let k = kept f.row f.within in
    record { row = k.row; within = k.within; same = k.same ∙ f.same; soon = omega (arith, k.soon, f.soon) }

-- ---- one row

-- one with another finding is pushed
pub merged-new : (old : List Found) (row : Found)
    → ((i : ℕ) (other : Found) → slice_get old i ≡ Some other → other.finding ≡ row.finding → ⊥)
    → AreMerged old (row ∷ []) (old ++ row ∷ [])
merged-new old row none = record {
  each = λ r i. ⊎_elim (λ j. inl j) (λ (e : row ≡ r). inr (inl e)) (In-push r old row i);
  kept = λ r i. found-here (old ++ row ∷ []) r (In-left r old (row ∷ []) i);
  added = λ r i. found-here (old ++ row ∷ []) r (In-right r old (row ∷ []) i);
  once = λ apart i j a b at here same. ⊎_elim
      (λ (p : slice_get old i ≡ Some a). ⊎_elim
      (λ (q : slice_get old j ≡ Some b). apart i j a b p q same)
      (λ q. absurd (none i a p (same ∙ ap (λ (r : Found). r.finding) (sym q.1)))) (get-push old row j b here))
      (λ p. ⊎_elim
      (λ (q : slice_get old j ≡ Some b).
      absurd (none j b q (sym same ∙ ap (λ (r : Found). r.finding) (sym p.1))))
      (λ q. p.0 ∙ sym q.0) (get-push old row j b here))
      (get-push old row i a at);
}

module _ (old : List Found) (i : ℕ) (row other : Found) (at : slice_get old i ≡ Some other)
    (same : other.finding ≡ row.finding) where
  -- one with fewer steps comes in its place
  pub merged-set : row.steps ≤ other.steps → AreMerged old (row ∷ []) (slice_set old i row)
  merged-set fewer = record {
    each = λ r k. ⊎_elim (λ j. inl j) (λ (e : row ≡ r). inr (inl e)) (In-set old i row r k);
    kept = λ r k. ⊎_elim (λ j. found-here (slice_set old i row) r j)
        (λ (e : other ≡ r). subst (λ (z : Found). IsFound (slice_set old i row) z.steps z.finding) e
        (found-by (slice_set old i row) row other (set-In old i row other at) (sym same) fewer))
        (In-kept old i row other r at k);
    added = λ r k. ⊎_elim
        (λ (e : row ≡ r). subst (λ (z : Found). IsFound (slice_set old i row) z.steps z.finding) e
        (found-here (slice_set old i row) row (set-In old i row other at))) (λ j. absurd j) k;
    once = λ apart j k a b here there is. ⊎_elim
        (λ p. ⊎_elim (λ q. p.0 ∙ sym q.0)
        (λ q. absurd (q.0 (apart k i b other q.1 at
        (sym is ∙ ap (λ (r : Found). r.finding) (sym p.1) ∙ sym same)))) (get-set old i row k b there))
        (λ p. ⊎_elim
        (λ q. absurd (p.0 (apart j i a other p.1 at
        (is ∙ ap (λ (r : Found). r.finding) (sym q.1) ∙ sym same))))
        (λ q. apart j k a b p.1 q.1 is) (get-set old i row k b there))
        (get-set old i row j a here);
  }

  -- one with more steps does not
  pub merged-same : other.steps ≤ row.steps → AreMerged old (row ∷ []) old
  merged-same fewer = record {
    each = λ r k. inl k;
    kept = λ r k. found-here old r k;
    added = λ r k. ⊎_elim
        (λ (e : row ≡ r). subst (λ (z : Found). IsFound old z.steps z.finding) e
        (found-by old other row (In-get old i other at) same fewer)) (λ j. absurd j) k;
    once = λ apart. apart;
  }

-- ---- all rows

pub merged-none : (rows : List Found) → AreMerged rows [] rows
merged-none rows = record {
  each = λ r i. inl i;
  kept = λ r i. found-here rows r i;
  added = λ r i. absurd i;
  once = λ apart. apart;
}

-- one row more
pub merged-more : (more : List Found) (i : ℕ) (d : Found) (old mid new : List Found) → i < length more
    → AreMerged old (take i more) mid → AreMerged mid (get_or more i d ∷ []) new
    → AreMerged old (take (i + 1) more) new
merged-more more i d old mid new below a b =
    subst (λ (l : List Found). AreMerged old l new) (sym (take_more more i d below)) (record {
      each = λ r k. ⊎_elim
          (λ j. ⊎_elim (λ o. inl o) (λ m. inr (In-left r (take i more) (get_or more i d ∷ []) m)) (a.each r j))
          (λ j. inr (In-right r (take i more) (get_or more i d ∷ []) j)) (b.each r k);
      kept = λ r k. found-through mid new b.kept r.steps r.finding (a.kept r k);
      added = λ r k. ⊎_elim (λ j. found-through mid new b.kept r.steps r.finding (a.added r j))
          (λ (e : get_or more i d ≡ r). b.added r (inl e)) (In-push r (take i more) (get_or more i d) k);
      once = λ apart. b.once (a.once apart);
    })
