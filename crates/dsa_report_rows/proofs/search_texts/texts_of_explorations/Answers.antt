use Rattle.dsa_report_rows.proofs.search_texts.texts_of_explorations.Goals as goal

pub returns-clause-plan : goal.returns-clause-plan
returns-clause-plan c form bounds bytes text is = is.plan

pub returns-clause-asked : goal.returns-clause-asked
returns-clause-asked c form bounds bytes text is = is.asked

pub returns-clause-search : goal.returns-clause-search
returns-clause-search c form bounds bytes text is = is.search

pub returns-clause-answered : goal.returns-clause-answered
returns-clause-answered c form bounds bytes text is = is.answered

pub returns-clause-told : goal.returns-clause-told
returns-clause-told c form bounds bytes text is = is.told

pub returns-clause-table : goal.returns-clause-table
returns-clause-table c form bounds bytes text is = is.table

pub returns-clause-found : goal.returns-clause-found
returns-clause-found c bounds caps script setup explored is = is.found
