-- Formulas that are nested.
use Rattle.std.proofs.Common.{◌≡◌, ◌∙◌, ℕ, suc, Bool, true, false, cond, Option, None, ap, codes, option_map, sym}
use Rattle.serde_json.specs.{Data.{Data}, Find.{get}}
use Rattle.dsa_questions.specs.Conditions.{has_keys}
use Rattle.dsa_questions.specs.declared.stating.Stated.{Stated}
use Rattle.dsa_questions.specs.Stating.{FormulaSoFar, Nameable, formula_onto, one_key_onto, pair_stated, with_stated}

module _ (depth n : ℕ) (names : Nameable) (w : FormulaSoFar) (d : Data) (deep : depth ≡ suc n) where
  abbrev joined : Option FormulaSoFar
  joined = one_key_onto (formula_onto n names) names w d (get (codes "all") d) (get (codes "any") d)
      (get (codes "not") d)

  -- with one key
  pub one-key : (one : Bool) → one ≡ has_keys 1 d → one ≡ true → joined ≡ formula_onto depth names w d
  one-key one is holds = sym (ap (λ k. formula_onto k names w d) deep
      ∙ ap (λ (b : Bool). cond b joined (option_map (with_stated w) (cond (has_keys 2 d) (pair_stated names d) None)))
      (sym is ∙ holds))

  -- with two
  pub two-keys : (one two : Bool) (stated : Option Stated) → one ≡ has_keys 1 d → one ≡ false → two ≡ has_keys 2 d
      → two ≡ true → stated ≡ pair_stated names d → option_map (with_stated w) stated ≡ formula_onto depth names w d
  two-keys one two stated is other is' holds same = ap (option_map (with_stated w)) same
      ∙ sym (ap (λ k. formula_onto k names w d) deep
      ∙ ap (λ (b : Bool). cond b joined (option_map (with_stated w) (cond (has_keys 2 d) (pair_stated names d) None)))
      (sym is ∙ other)
      ∙ ap (λ (b : Bool). option_map (with_stated w) (cond b (pair_stated names d) None)) (sym is' ∙ holds))
