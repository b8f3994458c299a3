use Rattle.dsa_questions.proofs.shown_rows.rows_that_are_soonest.Goals as goal
use Rattle.std.proofs.Common.{◌≡◌, Some, false, true, inl, inr, refl}

pub returns-clause-four : goal.returns-clause-four
returns-clause-four c = record { within = inr (inr (inr (inl refl))); asked = refl; fewest = refl }

pub returns-clause-seven : goal.returns-clause-seven
returns-clause-seven c = λ soonest.
    let clash : Some 4 ≡ Some 7 = soonest.fewest in
    absurd cc

pub returns-clause-none : goal.returns-clause-none
returns-clause-none c = λ soonest.
    let clash : false ≡ true = soonest.asked in
    absurd cc
