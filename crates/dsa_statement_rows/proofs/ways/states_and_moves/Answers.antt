use Rattle.dsa_statement_rows.proofs.ways.states_and_moves.Goals as goal
use Rattle.std.proofs.Common.{◌≤◌, ◌∙◌, [], ap, arith, inl, inr, refl, subst, sym}
use Rattle.std.proofs.lemmas.Bool.{false≢true}
use Rattle.dsa_explore.specs.declared.found.Found.{Found}
use Rattle.dsa_explore.specs.Explored.{MayCome}

pub returns-clause-states : goal.returns-clause-states
returns-clause-states c parties bytes_of first explored counts = counts.count

pub returns-clause-none : goal.returns-clause-none
returns-clause-none c first = record {
  world = first;
  reached = record { moves = []; leads = refl; count = refl };
  least = λ steps w reached same. omega arith;
}

pub returns-clause-fewer : goal.returns-clause-fewer
returns-clause-fewer c parties bytes_of first w needs reached same =
    absurd (omega (arith, needs.least 3 w reached same))

pub returns-clause-long_key : goal.returns-clause-long_key
returns-clause-long_key c space first search met = met

pub returns-clause-incomplete : goal.returns-clause-incomplete
returns-clause-incomplete c parties asks first = record {
  sound = λ row within. absurd within;
  complete = λ complete. absurd (false≢true complete);
  least = λ complete. absurd (false≢true complete);
}

pub returns-clause-two_findings : goal.returns-clause-two_findings
returns-clause-two_findings c space first a b apart comes goes early soon = record {
  sound = λ row within. elim within [
    | inl e ↦ subst (λ (r : Found). MayCome space.parties space.asks first r.steps r.finding) e comes
    | inr (inl e) ↦ subst (λ (r : Found). MayCome space.parties space.asks first r.steps r.finding) e goes
    | inr (inr none) ↦ absurd none
  ];
  early = λ row within. elim within [
    | inl e ↦ subst (λ (r : Found). r.steps ≤ 9) e early
    | inr (inl e) ↦ subst (λ (r : Found). r.steps ≤ 9) e soon
    | inr (inr none) ↦ absurd none
  ];
  distinct = λ row other within also same. elim within [
    | inl e ↦ elim also [
      | inl f ↦ sym e ∙ f
      | inr (inl f) ↦ absurd (apart (ap (λ (r : Found). r.finding) e ∙ same ∙ sym (ap (λ (r : Found). r.finding) f)))
      | inr (inr none) ↦ absurd none
    ]
    | inr (inl e) ↦ elim also [
      | inl f ↦ absurd (apart (ap (λ (r : Found). r.finding) f ∙ sym same ∙ sym (ap (λ (r : Found). r.finding) e)))
      | inr (inl f) ↦ sym e ∙ f
      | inr (inr none) ↦ absurd none
    ]
    | inr (inr none) ↦ absurd none
  ];
}
