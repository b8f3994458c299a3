use Rattle.dsa_report_rows.proofs.party_reports.lists_that_grow.Goals as goal

pub returns-clause-complaints : goal.returns-clause-complaints
returns-clause-complaints c old new more is = is

pub returns-clause-flaws : goal.returns-clause-flaws
returns-clause-flaws c old new more is = is

pub returns-clause-remarks : goal.returns-clause-remarks
returns-clause-remarks c old new more is = is
