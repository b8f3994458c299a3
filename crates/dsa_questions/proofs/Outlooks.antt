-- What is said of conditions, and what may come of the parties' steps.
use Rattle.std.proofs.Common.{◌≡◌, ◌≤◌, ℕ, Bool, true, false, List, Option, Some, None, refl, sym, ap, ◌∙◌, ◌⊎◌, inl, inr}
use Rattle.std.proofs.Common.{⊎_elim, subst, arith}
use Rattle.dsa_keys.specs.Parties.{Parties, World}
use Rattle.dsa_explore.specs.declared.found.{Explored.{Explored}, Finding.{Finding}, Found.{Found}}
use Rattle.dsa_explore.specs.Explored.{AskOf, AreFindings, MayCome}
use Rattle.dsa_questions.specs.declared.question.Condition.{Condition}
use Rattle.dsa_questions.specs.declared.verdicts.Outlook.{TheVariants.{With, InNoOrder, NotSoFar}}
use Rattle.dsa_questions.specs.{Asked.{is_row_asked}, Orders.{ComesWith, NeverComes}, Verdicts.{outlook_of, comes_by, fewest_from}}
use Rattle.dsa_questions.proofs.Fewest.{IsOne, none-of, one-of, least-of}

-- what was counted, where this is said
pub with-some : (b : Bool) (least : Option ℕ) (steps : ℕ) → comes_by b least ≡ With steps → least ≡ Some steps
with-some b (Some n) steps e = let same : n ≡ steps = cc in ap Some same
with-some true None steps e = absurd cc
with-some false None steps e = absurd cc

pub in-none : (b : Bool) (least : Option ℕ) → comes_by b least ≡ InNoOrder → (b ≡ true) × (least ≡ None)
in-none b (Some n) e = absurd cc
in-none true None e = (refl, refl)
in-none false None e = absurd cc

module _ {P M : Type 0} (parties : Parties P M) (asks : AskOf P M) (first : World P) (explored : Explored)
    (conditions : List Condition)
    (found : AreFindings parties asks first explored.rows.items explored.is_complete) where
  abbrev least : Option ℕ
  least = fewest_from conditions None explored.rows.items

  pub in-no-order : outlook_of conditions explored ≡ InNoOrder → NeverComes parties asks first conditions
  in-no-order e = λ steps finding asked may.
      let n = in-none explored.is_complete least e in
      let f = found.complete n.0 steps finding may in
      (none-of conditions None explored.rows.items n.1).1 f.row f.within
      (ap (λ (x : Finding). is_row_asked conditions x) f.same ∙ asked)

  pub some-order : (steps : ℕ) → outlook_of conditions explored ≡ With steps
      → ComesWith parties asks first conditions steps
  some-order steps e =
      ⊎_elim (λ no. absurd cc)
      (λ (r : IsOne conditions explored.rows.items steps). record {
        finding = r.row.finding;
        asked = r.asked;
        may = subst (λ (n : ℕ). MayCome parties asks first n r.row.finding) r.same (found.sound r.row r.within);
      })
      (one-of conditions None explored.rows.items steps (with-some explored.is_complete least steps e))

  pub fewest-steps : (steps others : ℕ) → explored.is_complete ≡ true → outlook_of conditions explored ≡ With steps
      → ComesWith parties asks first conditions others → steps ≤ others
  fewest-steps steps others all e other =
      let f = found.complete all others other.finding other.may in
      let low = (least-of conditions None explored.rows.items steps
      (with-some explored.is_complete least steps e)).1 f.row f.within
      (ap (λ (x : Finding). is_row_asked conditions x) f.same ∙ other.asked) in
      omega (arith, low, f.soon)
