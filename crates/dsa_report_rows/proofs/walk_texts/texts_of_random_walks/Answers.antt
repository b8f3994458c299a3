use Rattle.dsa_report_rows.proofs.walk_texts.texts_of_random_walks.Goals as goal

pub returns-clause-plan : goal.returns-clause-plan
returns-clause-plan c form walks bytes text is = is.plan

pub returns-clause-asked : goal.returns-clause-asked
returns-clause-asked c form walks bytes text is = is.asked

pub returns-clause-made : goal.returns-clause-made
returns-clause-made c form walks bytes text is = is.made

pub returns-clause-told : goal.returns-clause-told
returns-clause-told c form walks bytes text is = is.told

pub returns-clause-table : goal.returns-clause-table
returns-clause-table c form walks bytes text is = is.table
