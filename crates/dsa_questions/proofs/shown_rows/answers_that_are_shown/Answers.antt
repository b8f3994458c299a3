use Rattle.dsa_questions.proofs.shown_rows.answers_that_are_shown.Goals as goal
use Rattle.std.proofs.Common.{◌≡◌, ◌∙◌, Bool, None, true, false, ap}
use Rattle.dsa_questions.specs.Verdicts.{comes_by}

pub returns-clause-row : goal.returns-clause-row
returns-clause-row c = λ caps script setup conditions steps shown. shown.asked

pub returns-clause-no_row : goal.returns-clause-no_row
returns-clause-no_row c = λ caps script setup steps shown.
    let clash : false ≡ true = shown.asked in
    absurd cc

pub returns-clause-no_state : goal.returns-clause-no_state
returns-clause-no_state c = λ caps script setup steps shown.
    let clash : false ≡ true = shown.holds in
    absurd cc

pub returns-clause-with_steps : goal.returns-clause-with_steps
returns-clause-with_steps c = λ caps script setup explored question steps shown. shown.comes

pub returns-clause-in_no_order : goal.returns-clause-in_no_order
returns-clause-in_no_order c = λ caps script setup explored question none complete.
    none.none ∙ ap (λ (b : Bool). comes_by b None) complete

pub returns-clause-not_so_far : goal.returns-clause-not_so_far
returns-clause-not_so_far c = λ caps script setup explored question none bounded.
    none.none ∙ ap (λ (b : Bool). comes_by b None) bounded
