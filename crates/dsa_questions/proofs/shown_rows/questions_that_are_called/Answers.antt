use Rattle.dsa_questions.proofs.shown_rows.questions_that_are_called.Goals as goal
use Rattle.std.proofs.Common.{◌≡◌, ◌∙◌, ℕ, List, [], ◌∷◌, ◌++◌, ap, arith, get_or, inl, inr, refl, sym, ⊎_elim}
use Rattle.std.specs.Prelude.{codes}
use Rattle.dsa_base.specs.Lists.{In}
use Rattle.dsa_questions.specs.declared.question.Kind.TheVariants.{Never, Sometimes}
use Rattle.dsa_questions.specs.{Reading.{Asked, Wanted, rows, states}, Shown.{question_name}}
use Rattle.dsa_questions.specs.Worked.{asking, asking_states}

-- the question about states
abbrev this : Asked
this = asking_states Sometimes (codes "a") []

-- the names differ in their last letter
other-names : codes "never a" ≡ codes "never b" → ⊥
other-names same = let letters : 97 ≡ 98 = ap (λ (l : List ℕ). get_or l 6 0) same in omega (arith, letters)

pub returns-clause-second : goal.returns-clause-second
unfolding question_name
returns-clause-second c = record {
  before = asking Never (codes "a") [] ∷ [];
  after = asking_states Sometimes (codes "a") [] ∷ [];
  parts = refl;
  named = refl;
  others = λ other within named. ⊎_elim
      (λ (same : asking Never (codes "a") [] ≡ other).
      let clash : codes "never a" ≡ codes "sometimes a" = ap question_name same ∙ named in absurd cc)
      (λ i. absurd i) within;
}

pub returns-clause-not_third : goal.returns-clause-not_third
unfolding question_name
returns-clause-not_third c = λ first. go first.before first.after first.parts first.others
  where
    go : (before after : List Asked) → asking Sometimes (codes "a") [] ∷ this ∷ [] ≡ before ++ this ∷ after
        → ((other : Asked) → In other before → question_name other ≡ codes "sometimes a" → ⊥) → ⊥
    go [] after parts others =
        let same : asking Sometimes (codes "a") [] ≡ this = cc in
        let clash : rows [] ≡ states [] = ap (λ (q : Asked). q.wanted) same in
        absurd cc
    go (x ∷ before) after parts others =
        let same : asking Sometimes (codes "a") [] ≡ x = cc in
        others x (inl refl) (ap question_name (sym same))

pub returns-clause-not_this : goal.returns-clause-not_this
unfolding question_name
returns-clause-not_this c = λ first.
    let clash : codes "never a" ≡ codes "sometimes a" = first.named in
    absurd cc

pub returns-clause-none : goal.returns-clause-none
unfolding question_name
returns-clause-none c = λ question within named. ⊎_elim
    (λ (same : asking Never (codes "a") [] ≡ question). other-names (ap question_name same ∙ named))
    (λ i. absurd i) within

pub returns-clause-one : goal.returns-clause-one
unfolding question_name
returns-clause-one c = λ none. none (asking Never (codes "a") []) (inl refl) refl
