-- Rows that are added one after the other.
use Rattle.std.proofs.Common.{◌≡◌, ℕ, List, [], ◌∷◌, ◌++◌, refl, sym, ap, ◌∙◌, subst, inl, inr, ⊎_elim, map, take}
use Rattle.std.proofs.Common.{zero, suc, ◌+◌, ◌<◌, length, get_or, arith}
use Rattle.std.proofs.lemmas.List.{take_more}
use Rattle.dsa_explore.proofs.Growth.{In-from, In-mapped, map-push}
use Rattle.dsa_book.specs.declared.fate.FateRow.{FateRow}
use Rattle.dsa_keys.specs.Labels.{Labels, labelled_row}
use Rattle.dsa_base.{specs.Lists.{In}, proofs.Lists.{In-left, In-right, In-push, In-append}}
use Rattle.dsa_explore.specs.declared.found.{Finding.{Finding}, Found.{Found}}
use Rattle.dsa_explore.specs.Rows.{HasFinding, AddsRows}

pub added-none : (steps : ℕ) (rows : List Found) → AddsRows steps [] rows rows
added-none steps rows = record {
  kept = λ row i. i;
  each = λ row i. inl i;
  all = λ finding i. absurd i;
  once = λ d. d;
}

has-more : (rows more : List Found) (finding : Finding) → ((row : Found) → In row rows → In row more)
    → HasFinding rows finding → HasFinding more finding
has-more rows more finding kept h = record { row = h.row; within = kept h.row h.within; same = h.same }

pub added-both : (steps : ℕ) (fs gs : List Finding) (old mid new : List Found) → AddsRows steps fs old mid
    → AddsRows steps gs mid new → AddsRows steps (fs ++ gs) old new
added-both steps fs gs old mid new a b = record {
  kept = λ row i. b.kept row (a.kept row i);
  each = λ row i. ⊎_elim
      (λ j. ⊎_elim (λ o. inl o) (λ p. inr (In-left row.finding fs gs p.0, p.1)) (a.each row j))
      (λ p. inr (In-right row.finding fs gs p.0, p.1)) (b.each row i);
  all = λ finding i. ⊎_elim (λ j. has-more mid new finding b.kept (a.all finding j)) (λ j. b.all finding j)
      (In-append finding fs gs i);
  once = λ d. b.once (a.once d);
}

-- a finding that a row has
pub added-old : (steps : ℕ) (finding : Finding) (rows : List Found) → HasFinding rows finding
    → AddsRows steps (finding ∷ []) rows rows
added-old steps finding rows h = record {
  kept = λ row i. i;
  each = λ row i. inl i;
  all = λ other i. ⊎_elim (λ (e : finding ≡ other). subst (λ f. HasFinding rows f) e h) (λ j. absurd j) i;
  once = λ d. d;
}

-- one that none has
pub added-new : (finding : Finding) (rows : List Found) (new : Found) → new.finding ≡ finding
    → ((row : Found) → In row rows → row.finding ≡ finding → ⊥)
    → AddsRows new.steps (finding ∷ []) rows (rows ++ new ∷ [])
added-new finding rows new is none = record {
  kept = λ row i. In-left row rows (new ∷ []) i;
  each = λ row i. ⊎_elim (λ j. inl j)
      (λ (e : new ≡ row). inr (inl (sym is ∙ ap (λ (r : Found). r.finding) e), sym (ap (λ (r : Found). r.steps) e)))
      (In-push row rows new i);
  all = λ other i. ⊎_elim
      (λ (e : finding ≡ other). record {
        row = new;
        within = In-right new rows (new ∷ []) (inl refl);
        same = is ∙ e;
      })
      (λ j. absurd j) i;
  once = λ d row other i j same. ⊎_elim
      (λ a. ⊎_elim (λ b. d row other a b same)
      (λ (e : new ≡ other). absurd (none row a (same ∙ sym (ap (λ (r : Found). r.finding) e) ∙ is)))
      (In-push other rows new j))
      (λ (e : new ≡ row). ⊎_elim
      (λ b. absurd (none other b (sym same ∙ sym (ap (λ (r : Found). r.finding) e) ∙ is)))
      (λ (e' : new ≡ other). sym e ∙ e') (In-push other rows new j))
      (In-push row rows new i);
}

-- one finding more
added-last : (steps : ℕ) (findings all : List Finding) (last finding : Finding) (old mid new : List Found)
    → all ≡ findings ++ last ∷ [] → AddsRows steps findings old mid → finding ≡ last
    → AddsRows steps (finding ∷ []) mid new → AddsRows steps all old new
added-last steps findings all last finding old mid new more before is here =
    subst (λ (l : List Finding). AddsRows steps l old new) (sym more)
    (added-both steps findings (last ∷ []) old mid new before
    (subst (λ (f : Finding). AddsRows steps (f ∷ []) mid new) is here))

-- what is told of one value more
pub added-more : {X : Type 0} (steps : ℕ) (told : X → Finding) (xs : List X) (i : ℕ) (d : X) (finding : Finding)
    (old mid new : List Found) → i < length xs → AddsRows steps (map told (take i xs)) old mid
    → finding ≡ told (get_or xs i d) → AddsRows steps (finding ∷ []) mid new
    → AddsRows steps (map told (take (i + 1) xs)) old new
added-more steps told xs i d finding old mid new below before is here =
    added-last steps (map told (take i xs)) (map told (take (i + 1) xs)) (told (get_or xs i d)) finding old mid new
    (ap (map told) (take_more xs i d below) ∙ map-push told (take i xs) (get_or xs i d)) before is here

-- what is told of one row more, by labels
pub added-row : (steps : ℕ) (told : FateRow → Finding) (labels : Labels) (ends : List FateRow) (i : ℕ) (d : FateRow)
    (finding : Finding) (old mid new : List Found) → i < length ends
    → AddsRows steps (map told (map (labelled_row labels) (take i ends))) old mid
    → finding ≡ told (labelled_row labels (get_or ends i d)) → AddsRows steps (finding ∷ []) mid new
    → AddsRows steps (map told (map (labelled_row labels) (take (i + 1) ends))) old new
added-row steps told labels ends i d finding old mid new below before is here =
    let last = labelled_row labels (get_or ends i d) in
    added-last steps (map told (map (labelled_row labels) (take i ends)))
    (map told (map (labelled_row labels) (take (i + 1) ends))) (told last) finding old mid new
    (ap (λ l. map told (map (labelled_row labels) l)) (take_more ends i d below)
    ∙ ap (map told) (map-push (labelled_row labels) (take i ends) (get_or ends i d))
    ∙ map-push told (map (labelled_row labels) (take i ends)) last) before is here

-- ---- a loop over rows

pub In-at : {X : Type 0} (xs : List X) (i : ℕ) (d : X) → i < length xs → In (get_or xs i d) xs
In-at [] i d h = absurd (omega (arith, h))
In-at (x ∷ xs) zero d h = inl refl
In-at (x ∷ xs) (suc i) d h = inr (In-at xs i d (omega (arith, h)))

pub has-here : (rows : List Found) (i : ℕ) (d : Found) (finding : Finding) → i < length rows
    → (get_or rows i d).finding ≡ finding → HasFinding rows finding
has-here rows i d finding below same = record { row = get_or rows i d; within = In-at rows i d below; same = same }

pub none-more : (rows : List Found) (i : ℕ) (d : Found) (finding : Finding) → i < length rows
    → ((row : Found) → In row (take i rows) → row.finding ≡ finding → ⊥)
    → ((get_or rows i d).finding ≡ finding → ⊥)
    → (row : Found) → In row (take (i + 1) rows) → row.finding ≡ finding → ⊥
none-more rows i d finding below none here row j same =
    ⊎_elim (λ k. none row k same)
    (λ (e : get_or rows i d ≡ row). here (ap (λ (r : Found). r.finding) e ∙ same))
    (In-push row (take i rows) (get_or rows i d) (subst (λ (l : List Found). In row l) (take_more rows i d below) j))

-- ---- rows of one step

-- the findings of rows that were added to none are told
pub added-told : (steps : ℕ) (findings : List Finding) (told old new : List Found) → AddsRows 0 findings [] told
    → AddsRows steps (map (λ (r : Found). r.finding) told) old new → AddsRows steps findings old new
added-told steps findings told old new a b = record {
  kept = b.kept;
  each = λ row i. ⊎_elim (λ j. inl j)
      (λ p.
      let r = In-from (λ (r : Found). r.finding) row.finding told p.0 in
      ⊎_elim (λ (j : In r.0 []). absurd j)
      (λ q. inr (subst (λ (f : Finding). In f findings) r.1.1 q.0, p.1)) (a.each r.0 r.1.0))
      (b.each row i);
  all = λ finding i.
      let h = a.all finding i in
      b.all finding (subst (λ (f : Finding). In f (map (λ (r : Found). r.finding) told)) h.same
      (In-mapped (λ (r : Found). r.finding) h.row told h.within));
  once = b.once;
}
