use Rattle.dsa_report_rows.proofs.explorations.rows_that_never_come.Goals as goal

pub returns-clause-nothing_asked : goal.returns-clause-nothing_asked
returns-clause-nothing_asked c parties asks first = λ steps finding asked. absurd cc

pub returns-clause-asked : goal.returns-clause-asked
returns-clause-asked c parties asks first conditions comes = comes.asked
