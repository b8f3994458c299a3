use Rattle.dsa_report_rows.proofs.explorations.answers_that_are_shown.Goals as goal
use Rattle.std.proofs.Common.{◌≡◌, ◌∙◌, ℕ, List, [], ◌∷◌, ◌++◌, ap, arith, false, length, length-append, sym, true, ⊎_elim}
use Rattle.std.specs.Prelude.{codes}
use Rattle.dsa_questions.specs.{Reading.{Asked}, Shown.{calls_question}}

pub returns-clause-steps : goal.returns-clause-steps
returns-clause-steps c bounds name bytes text shown = shown.shown

pub returns-clause-no_such_answer : goal.returns-clause-no_such_answer
returns-clause-no_such_answer c bounds name bytes is = is.1.complete

pub returns-clause-bounded : goal.returns-clause-bounded
returns-clause-bounded c bounds name bytes is = is.1.complete

pub returns-clause-row : goal.returns-clause-row
returns-clause-row c bounds bytes text is = ⊎_elim (λ row. row)
    (λ answer. let clash : false ≡ true = answer.called in absurd cc) is

pub returns-clause-no_question_read : goal.returns-clause-no_question_read
returns-clause-no_question_read c bounds bytes text is = ⊎_elim (λ row. row)
    (λ answer. let clash : false ≡ true = answer.1.1 in absurd cc) is

pub returns-clause-no_row : goal.returns-clause-no_row
returns-clause-no_row c bounds bytes text shown labels acts =
    let clash : true ≡ false =
    sym (ap (λ (l : List (List ℕ)). calls_question l shown.acts (codes "never 0")) labels
    ∙ ap (λ (l : List (List ℕ)). calls_question [] l (codes "never 0")) acts) ∙ shown.called in
    absurd cc

pub returns-clause-not_broken : goal.returns-clause-not_broken
returns-clause-not_broken c bounds name bytes text is = ⊎_elim (λ row. row) (λ answer. answer) is

pub returns-clause-in_vain : goal.returns-clause-in_vain
returns-clause-in_vain c caps script setup explored name is =
    let first = is.named in
    let long : 0 ≡ length (first.before ++ is.question ∷ first.after) = ap (λ (l : List Asked). length l) first.parts in
    absurd (omega (arith, long, length-append first.before (is.question ∷ first.after)))

pub returns-clause-asked : goal.returns-clause-asked
returns-clause-asked c bounds bytes caps script setup labels acts questions explored search = search.asked
