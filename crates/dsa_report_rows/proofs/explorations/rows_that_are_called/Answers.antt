use Rattle.dsa_report_rows.proofs.explorations.rows_that_are_called.Goals as goal
use Rattle.std.proofs.Common.{◌≡◌, List, [], ◌∷◌, ◌++◌, length, length-append, ap, ⊎_elim, arith}
use Rattle.dsa_explore.specs.declared.found.Found.{Found}

pub returns-clause-no_row : goal.returns-clause-no_row
returns-clause-no_row c row is =
    let long : 0 ≡ length (is.before ++ row ∷ is.after) = ap (λ (l : List Found). length l) is.parts in
    absurd (omega (arith, long, length-append is.before (row ∷ is.after)))

pub returns-clause-bounded : goal.returns-clause-bounded
returns-clause-bounded c bounds name bytes is = ⊎_elim
    (λ row. let clash : 97 ∷ [] ≡ [] = row.0 in absurd cc) (λ answer. let clash : 97 ∷ [] ≡ [] = answer.0 in absurd cc)
    is

pub returns-clause-complete : goal.returns-clause-complete
returns-clause-complete c bounds name bytes is = ⊎_elim
    (λ row. let clash : 97 ∷ [] ≡ [] = row.0 in absurd cc) (λ answer. let clash : 97 ∷ [] ≡ [] = answer.0 in absurd cc)
    is
