use Rattle.dsa_explore.proofs.worked.findings_in_rows.Goals as goal
use Rattle.std.proofs.Common.{◌≡◌, ◌∙◌, ℕ, ◌≤◌, ap, inl, inr, refl, arith}
use Rattle.dsa_base.specs.Lists.{In}
use Rattle.dsa_book.specs.declared.answer.{Reply.TheVariants.{Poll}, PollAnswer.TheVariants.{Nothing}}
use Rattle.dsa_explore.specs.declared.found.{Ask.TheVariants.{Act}, Found.{Found}}
use Rattle.dsa_explore.specs.declared.found.Finding.{Finding, TheVariants.{Answer, Wait, Removal}}
use Rattle.dsa_explore.specs.{Explored.{IsFound}, WorkedSearch.{two_rows}}

-- the number of the act, and the label
abbrev act-of : Finding → ℕ
act-of (Wait act label) = act
act-of other = 0

abbrev label-of : Finding → ℕ
label-of (Wait act label) = label
label-of other = 0

-- each of the rows is none of the other finding
module _ (steps : ℕ) (finding : Finding) (first : Wait 2 10 ≡ finding → 3 ≤ steps → ⊥)
    (second : Answer (Act 2) (Poll Nothing) ≡ finding → ⊥) where
  neither : IsFound two_rows steps finding → ⊥
  neither found = go found.row found.within found.same found.soon
    where
      go : (row : Found) → In row two_rows → row.finding ≡ finding → row.steps ≤ steps → ⊥
      go row (inl is) same soon =
          first (ap (λ (r : Found). r.finding) is ∙ same) (omega (arith, soon, ap (λ (r : Found). r.steps) is))
      go row (inr (inl is)) same soon = second (ap (λ (r : Found). r.finding) is ∙ same)
      go row (inr (inr none)) same soon = none

pub returns-clause-just : goal.returns-clause-just
returns-clause-just c = record {
  row = record { finding = Wait 2 10; steps = 3 };
  within = inl refl;
  same = refl;
  soon = omega arith;
}

pub returns-clause-earlier : goal.returns-clause-earlier
returns-clause-earlier c = record {
  row = record { finding = Answer (Act 2) (Poll Nothing); steps = 2 };
  within = inr (inl refl);
  same = refl;
  soon = omega arith;
}

pub returns-clause-too_late : goal.returns-clause-too_late
returns-clause-too_late c found =
    neither 2 (Wait 2 10) (λ same soon. omega (arith, soon)) (λ same. absurd cc) found

pub returns-clause-other_label : goal.returns-clause-other_label
returns-clause-other_label c found = neither 3 (Wait 2 20)
    (λ same soon. let labels : 10 ≡ 20 = ap label-of same in omega (arith, labels)) (λ same. absurd cc) found

pub returns-clause-other_act : goal.returns-clause-other_act
returns-clause-other_act c found = neither 3 (Wait 1 10)
    (λ same soon. let acts : 2 ≡ 1 = ap act-of same in omega (arith, acts)) (λ same. absurd cc) found

pub returns-clause-removal : goal.returns-clause-removal
returns-clause-removal c found =
    neither 3 (Removal 2 10) (λ same soon. absurd cc) (λ same. absurd cc) found
