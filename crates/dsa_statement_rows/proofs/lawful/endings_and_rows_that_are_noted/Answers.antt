use Rattle.dsa_statement_rows.proofs.lawful.endings_and_rows_that_are_noted.Goals as goal

pub returns-clause-each : goal.returns-clause-each
returns-clause-each c old new ending is e within = is.each e within

pub returns-clause-kept : goal.returns-clause-kept
returns-clause-kept c old new ending is e within = is.kept e within

pub returns-clause-has : goal.returns-clause-has
returns-clause-has c old new ending is = is.has

pub returns-clause-once : goal.returns-clause-once
returns-clause-once c old new ending is apart = is.once apart

pub returns-clause-rows_kept : goal.returns-clause-rows_kept
returns-clause-rows_kept c findings old new adds row within = adds.kept row within

pub returns-clause-rows_added : goal.returns-clause-rows_added
returns-clause-rows_added c findings old new adds row within = adds.each row within

pub returns-clause-rows_all : goal.returns-clause-rows_all
returns-clause-rows_all c findings old new adds finding within = adds.all finding within

pub returns-clause-rows_once : goal.returns-clause-rows_once
returns-clause-rows_once c findings old new adds apart = adds.once apart
