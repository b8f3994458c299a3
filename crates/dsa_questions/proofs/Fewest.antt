-- The fewest steps of the rows that are asked for.
use Rattle.std.proofs.Common.{◌≡◌, ◌≤◌, ◌<◌, ℕ, Bool, true, false, cond, List, [], ◌∷◌, Option, Some, None, refl, sym, ap}
use Rattle.std.proofs.Common.{◌∙◌, ◌⊎◌, inl, inr, ⊎_elim, arith}
use Rattle.std.specs.Prelude.{min}
use Rattle.std.proofs.lemmas.{Bool.{cases_lt}, Option.{same_Some}}
use Rattle.dsa_base.specs.Lists.{In}
use Rattle.dsa_explore.specs.declared.found.Found.{Found}
use Rattle.dsa_questions.specs.declared.question.Condition.{Condition}
use Rattle.dsa_questions.specs.{Asked.{is_row_asked}, Verdicts.{fewer, fewest_from}}

-- a row with these steps, which is asked for
pub record IsOne (conditions : List Condition) (rows : List Found) (steps : ℕ) : Type 0 where
  pub row : Found
  pub within : In row rows
  pub asked : is_row_asked conditions row.finding ≡ true
  pub same : row.steps ≡ steps

-- no row is asked for
abbrev pub NoneIs : List Condition → List Found → Type 0
NoneIs conditions rows = (row : Found) → In row rows → is_row_asked conditions row.finding ≡ true → ⊥

-- each row that is asked for has so many steps, or more
abbrev pub NoneIsBelow : List Condition → ℕ → List Found → Type 0
NoneIsBelow conditions steps rows = (row : Found) → In row rows → is_row_asked conditions row.finding ≡ true
    → steps ≤ row.steps

-- the least so far is not below these steps
abbrev pub IsNotBelow : ℕ → Option ℕ → Type 0
IsNotBelow steps least = (l : ℕ) → least ≡ Some l → steps ≤ l

module _ (conditions : List Condition) where
  not-this : (first row : Found) → is_row_asked conditions first.finding ≡ false → first ≡ row
      → is_row_asked conditions row.finding ≡ true → ⊥
  not-this first row is same asked =
      let no : false ≡ true = sym is ∙ ap (λ (r : Found). is_row_asked conditions r.finding) same ∙ asked in
      absurd cc

  pub none-of : (least : Option ℕ) (rows : List Found) → fewest_from conditions least rows ≡ None
      → (least ≡ None) × NoneIs conditions rows
  none-of least [] e = (e, λ row i asked. absurd i)
  none-of least (first ∷ rows) e = go (λ l h. none-of l rows h) (is_row_asked conditions first.finding) refl e
    where
      go : ((l : Option ℕ) → fewest_from conditions l rows ≡ None → (l ≡ None) × NoneIs conditions rows) → (b : Bool)
          → is_row_asked conditions first.finding ≡ b
          → fewest_from conditions (cond b (Some (fewer least first.steps)) least) rows ≡ None
          → (least ≡ None) × NoneIs conditions (first ∷ rows)
      go more true is h =
          let no = (more (Some (fewer least first.steps)) h).0 in
          absurd cc
      go more false is h =
          let r = more least h in
          (r.0, λ row i asked. ⊎_elim (λ same. not-this first row is same asked) (λ j. r.1 row j asked) i)

  -- one step of the count
  taken : (least : Option ℕ) (steps all : ℕ) → Some (fewer least steps) ≡ Some all
      → (least ≡ Some all) ⊎ (steps ≡ all)
  taken None steps all e = inr (same_Some steps all e)
  taken (Some l) steps all e =
      let m = same_Some (min l steps) all e in
      ⊎_elim (λ (a : l < steps). let same : l ≡ all = omega (arith, m, a) in inl (ap Some same))
      (λ (b : steps ≤ l). inr (omega (arith, m, b))) (cases_lt l steps)

  kept : (least : Option ℕ) (steps all : ℕ) → all ≤ fewer least steps → IsNotBelow all least × (all ≤ steps)
  kept None steps all h = (λ l e. absurd cc, h)
  kept (Some l) steps all h = (λ k e. let same = same_Some l k e in omega (arith, same, h), omega (arith, h))

  pub one-of : (least : Option ℕ) (rows : List Found) (steps : ℕ) → fewest_from conditions least rows ≡ Some steps
      → (least ≡ Some steps) ⊎ IsOne conditions rows steps
  one-of least [] steps e = inl e
  one-of least (first ∷ rows) steps e = go (λ l h. one-of l rows steps h) (is_row_asked conditions first.finding) refl e
    where
      later : IsOne conditions rows steps → IsOne conditions (first ∷ rows) steps
      later r = record { row = r.row; within = inr r.within; asked = r.asked; same = r.same }

      go : ((l : Option ℕ) → fewest_from conditions l rows ≡ Some steps
          → (l ≡ Some steps) ⊎ IsOne conditions rows steps)
          → (b : Bool) → is_row_asked conditions first.finding ≡ b
          → fewest_from conditions (cond b (Some (fewer least first.steps)) least) rows ≡ Some steps
          → (least ≡ Some steps) ⊎ IsOne conditions (first ∷ rows) steps
      go more true is h = ⊎_elim
          (λ now. ⊎_elim (λ before. inl before)
          (λ same. inr (record { row = first; within = inl refl; asked = is; same = same }))
          (taken least first.steps steps now))
          (λ r. inr (later r)) (more (Some (fewer least first.steps)) h)
      go more false is h = ⊎_elim (λ before. inl before) (λ r. inr (later r)) (more least h)

  pub least-of : (least : Option ℕ) (rows : List Found) (steps : ℕ) → fewest_from conditions least rows ≡ Some steps
      → IsNotBelow steps least × NoneIsBelow conditions steps rows
  least-of least [] steps e =
      (λ l is. let same = same_Some steps l (sym e ∙ is) in omega (arith, same), λ row i asked. absurd i)
  least-of least (first ∷ rows) steps e =
      go (λ l h. least-of l rows steps h) (is_row_asked conditions first.finding) refl e
    where
      go : ((l : Option ℕ) → fewest_from conditions l rows ≡ Some steps
          → IsNotBelow steps l × NoneIsBelow conditions steps rows)
          → (b : Bool) → is_row_asked conditions first.finding ≡ b
          → fewest_from conditions (cond b (Some (fewer least first.steps)) least) rows ≡ Some steps
          → IsNotBelow steps least × NoneIsBelow conditions steps (first ∷ rows)
      go more true is h =
          let r = more (Some (fewer least first.steps)) h in
          let k = kept least first.steps steps (r.0 (fewer least first.steps) refl) in (
            k.0,
            λ row i asked. ⊎_elim
                (λ (same : first ≡ row). let s = ap (λ (r : Found). r.steps) same in omega (arith, s, k.1))
                (λ j. r.1 row j asked) i,
          )
      go more false is h =
          let r = more least h in
          (r.0, λ row i asked. ⊎_elim (λ same. absurd (not-this first row is same asked)) (λ j. r.1 row j asked) i)
