-- The texts of places and values, one after the other.
use Rattle.std.proofs.Common.{◌≡◌, ◌<◌, ◌≤◌, ◌+◌, ℕ, List, [], ◌∷◌, ◌++◌, map, drop, get_or, length, refl, sym, ◌∙◌}
use Rattle.std.proofs.Common.{ap, subst, append_assoc, append-nil}
use Rattle.std.proofs.lemmas.List.{drop_all, drop_more}
use Rattle.dsa_family.specs.Values.{IsDataText}
use Rattle.dsa_family.specs.declared.{chosen.Choice.{Choice}, headings.Heading.{Heading}}
use Rattle.dsa_family.specs.{Family.{AreChosenTexts, path_in_heading}, Told.{chosen_as}}

parts : (o b p v r : List ℕ) → (o ++ (b ++ (p ++ v))) ++ r ≡ o ++ (b ++ (p ++ (v ++ r)))
parts o b p v r = simp append_assoc

-- the item at a place, and those after it
pub next_item : {X : Type 0} (xs : List X) (i : ℕ) (x : X) → i < length xs → x ≡ get_or xs i x
    → drop i xs ≡ x ∷ drop (i + 1) xs
next_item xs i x inside is = drop_more xs i x inside ∙ ap (λ y. y ∷ drop (i + 1) xs) (sym is)

module _ (heading : Heading) (first next : List ℕ) (choices : List Choice) (initial : List ℕ) where
  -- with the texts of all choices from this one on, all are added
  abbrev pub AddsTheRest : (before text : List ℕ) → ℕ → Type 0
  AddsTheRest before text i =
      (rest : List ℕ) → AreChosenTexts heading before next (map chosen_as (drop i choices)) rest
      → (added : List ℕ) × AreChosenTexts heading first next (map chosen_as choices) added
      × (text ++ rest ≡ initial ++ added)

  pub choice_more : (before : List ℕ) (i : ℕ) (choice : Choice) (old new value : List ℕ) → i < length choices
      → choice ≡ get_or choices i choice → IsDataText (chosen_as choice).1 value
      → new ≡ old ++ (before ++ (path_in_heading heading (chosen_as choice).0 ++ value))
      → AddsTheRest before old i → AddsTheRest next new (i + 1)
  choice_more before i choice old new value inside is told made h rest texts =
      let path = path_in_heading heading (chosen_as choice).0 in
      let here : AreChosenTexts heading before next (map chosen_as (drop i choices)) (before ++ (path ++ (value ++ rest))) =
      subst (λ (xs : List Choice). AreChosenTexts heading before next (map chosen_as xs) (before ++ (path ++ (value ++ rest))))
      (sym (next_item choices i choice inside is)) (value, rest, told, texts, refl) in
      let all = h (before ++ (path ++ (value ++ rest))) here in
      (all.0, all.1, ap (λ x. x ++ rest) made ∙ parts old before path value rest ∙ all.2)

  pub choices_end : (before : List ℕ) (i : ℕ) (text : List ℕ) → length choices ≤ i → AddsTheRest before text i
      → (added : List ℕ) × AreChosenTexts heading first next (map chosen_as choices) added × (text ≡ initial ++ added)
  choices_end before i text past h =
      let all = h [] (subst (λ (xs : List Choice). AreChosenTexts heading before next (map chosen_as xs) [])
      (sym (drop_all i choices past)) refl) in
      (all.0, all.1, sym (append-nil text) ∙ all.2)
