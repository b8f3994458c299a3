-- Questions about states.
use Rattle.std.proofs.Common.{◌≡◌, ◌∙◌, ℕ, List, [], ◌∷◌, ◌++◌, Some, None, Bool, true, false, ap, map, refl, string_bytes, subst, sym}
use Rattle.std.specs.Prelude.{Option, String, option_map}
use Rattle.std.proofs.lemmas.List.{map-append}
use Rattle.std.specs.declared.alloc.Global.{Global}
use Rattle.serde_json.specs.Data.{Data}
use Rattle.dsa_base.specs.Rows.{when}
use Rattle.dsa_questions.specs.declared.question.{Kind.{Kind}, Question.{Question}}
use Rattle.dsa_questions.specs.Reading.{Inquiry, most_nested, question_asked, states, terms_for, wanted_onto, with_question}
use Rattle.dsa_questions.specs.Stating.{FormulaSoFar, Nameable, formula_onto}

module _ (kind : Kind) (names : Nameable) (done : Inquiry) (name : List ℕ) (that : Data) (depth : ℕ)
    (deep : depth ≡ most_nested) (so_far new : FormulaSoFar)
    (begun : so_far ≡ record { terms = []; watches = done.watches }) where
  -- what is asked for
  abbrev with-formula : FormulaSoFar → Inquiry
  with-formula w = with_question done kind name (states (terms_for kind w.terms)) w.watches

  said : (good : Bool) → when good new ≡ formula_onto depth names so_far that
      → option_map with-formula (when good new) ≡ wanted_onto kind names done name that None
  said good is = ap (option_map with-formula) (is ∙ (λ i. formula_onto (deep i) names (begun i) that))

  pub states-none : (good : Bool) → good ≡ false → when good new ≡ formula_onto depth names so_far that
      → None ≡ wanted_onto kind names done name that None
  states-none good bad is = ap (λ (b : Bool). option_map with-formula (when b new)) (sym bad) ∙ said good is

  pub states-some : (good : Bool) → good ≡ true → when good new ≡ formula_onto depth names so_far that
      → (result : Inquiry) → result ≡ with-formula new → Some result ≡ wanted_onto kind names done name that None
  states-some good well is result same =
      ap Some same ∙ ap (λ (b : Bool). option_map with-formula (when b new)) (sym well) ∙ said good is
