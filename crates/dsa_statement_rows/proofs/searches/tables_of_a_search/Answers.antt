use Rattle.dsa_statement_rows.proofs.searches.tables_of_a_search.Goals as goal
use Rattle.std.proofs.Common.{ap, arith, inl, inr, refl}
use Rattle.dsa_explore.specs.declared.found.Found.{Found}
use Rattle.dsa_statement_rows.specs.Searches.{stored_at}

pub returns-clause-too_high : goal.returns-clause-too_high
returns-clause-too_high c w levels = absurd (omega (arith, levels.early 0 (stored_at 1 w) refl))

pub returns-clause-stored : goal.returns-clause-stored
returns-clause-stored c space first keys levels x table = table.worlds x (inl refl)

pub returns-clause-expanded : goal.returns-clause-expanded
returns-clause-expanded c space first old new table x is = is.is_search

pub returns-clause-two_rows : goal.returns-clause-two_rows
returns-clause-two_rows c space first finding rows =
    let same = rows.distinct (record { finding = finding; steps = 3 }) (record { finding = finding; steps = 4 })
    (inl refl) (inr (inl refl)) refl in
    absurd (omega (arith, ap (λ (row : Found). row.steps) same))
