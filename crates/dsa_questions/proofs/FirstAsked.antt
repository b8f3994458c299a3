-- Questions by their names.
use Rattle.std.proofs.Common.{◌≡◌, ◌<◌, ◌≤◌, ◌+◌, ℕ, zero, suc, List, [], ◌∷◌, ◌++◌, length, map, drop, take, get_or}
use Rattle.std.proofs.Common.{add-one, ap, refl, sym, subst, inl, inr, arith, ◌∙◌}
use Rattle.std.proofs.lemmas.List.{map-append, take_all, take_more}
use Rattle.dsa_base.{specs.Lists.{In}, proofs.Lists.{In-push}}
use Rattle.dsa_questions.specs.declared.question.Question.{Question}
use Rattle.dsa_questions.specs.{Reading.{Asked, question_asked}, Shown.{HasNoneAsked, IsFirstAsked, question_name}}

-- a list is what stands before a place, that place, and what stands after it
parts-of : (qs : List Question) (i : ℕ) (d : Question) → i < length qs
    → map question_asked qs
    ≡ map question_asked (take i qs) ++ question_asked (get_or qs i d) ∷ map question_asked (drop (i + 1) qs)
parts-of [] i d inside = absurd (omega (arith, inside))
parts-of (q ∷ qs) zero d inside = refl
parts-of (q ∷ qs) (suc i) d inside =
    rw add-one (ap (λ l. question_asked q ∷ l) (rw add-one at (parts-of qs i d (omega (arith, inside)))))

module _ (qs : List Question) (name : List ℕ) (i : ℕ) where
  -- the question of this place is the first that is called so
  pub first-asked : (q : Question) → i < length qs → q ≡ get_or qs i q
      → HasNoneAsked (map question_asked (take i qs)) name → question_name (question_asked q) ≡ name
      → IsFirstAsked (map question_asked qs) name (question_asked q)
  first-asked q inside is none named = record {
    before = map question_asked (take i qs);
    after = map question_asked (drop (i + 1) qs);
    parts = subst (λ (z : Question). map question_asked qs
        ≡ map question_asked (take i qs) ++ question_asked z ∷ map question_asked (drop (i + 1) qs)) (sym is)
        (parts-of qs i q inside);
    named = named;
    others = none;
  }

  -- it is not called so, nor are those before it
  pub none-more : (q : Question) → i < length qs → q ≡ get_or qs i q
      → HasNoneAsked (map question_asked (take i qs)) name → (question_name (question_asked q) ≡ name → ⊥)
      → HasNoneAsked (map question_asked (take (i + 1) qs)) name
  none-more q inside is none other = λ asked within.
      let all : map question_asked (take (i + 1) qs) ≡ map question_asked (take i qs) ++ question_asked q ∷ [] =
      ap (map question_asked) (take_more qs i q inside ∙ ap (λ y. take i qs ++ y ∷ []) (sym is))
      ∙ map-append question_asked (take i qs) (q ∷ []) in
      elim (In-push asked (map question_asked (take i qs)) (question_asked q)
      (subst (λ (l : List Asked). In asked l) all within)) [
        | inl earlier ↦ none asked earlier
        | inr same ↦ λ named. other (subst (λ (z : Asked). question_name z ≡ name) (sym same) named)
      ]

  -- none is called so
  pub none-asked : length qs ≤ i → HasNoneAsked (map question_asked (take i qs)) name
      → HasNoneAsked (map question_asked qs) name
  none-asked past none =
      subst (λ (l : List Question). HasNoneAsked (map question_asked l) name) (take_all i qs past) none
