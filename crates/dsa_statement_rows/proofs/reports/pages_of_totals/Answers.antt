use Rattle.dsa_statement_rows.proofs.reports.pages_of_totals.Goals as goal

pub returns-clause-entries : goal.returns-clause-entries
returns-clause-entries c steps page is = is.entries

pub returns-clause-occupancies : goal.returns-clause-occupancies
returns-clause-occupancies c steps page is = is.occupancies

pub returns-clause-sizes : goal.returns-clause-sizes
returns-clause-sizes c steps page is = is.sizes

pub returns-clause-used : goal.returns-clause-used
returns-clause-used c steps page is = is.used

pub returns-clause-allowed : goal.returns-clause-allowed
returns-clause-allowed c steps page is = is.allowed
