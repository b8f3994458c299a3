use Rattle.dsa_statement_rows.proofs.parties.lines_of_walks.Goals as goal

pub returns-clause-short : goal.returns-clause-short
returns-clause-short c memory s walk = walk.lines

pub returns-clause-led : goal.returns-clause-led
returns-clause-led c memory s walk = walk.leads
