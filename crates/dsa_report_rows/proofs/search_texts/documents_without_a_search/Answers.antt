use Rattle.dsa_report_rows.proofs.search_texts.documents_without_a_search.Goals as goal

pub returns-clause-parties : goal.returns-clause-parties
returns-clause-parties c bytes bad = bad.runnable

pub returns-clause-question : goal.returns-clause-question
returns-clause-question c bytes bad = bad.plan

pub returns-clause-said : goal.returns-clause-said
returns-clause-said c bytes bad = bad.said

pub returns-clause-setup : goal.returns-clause-setup
returns-clause-setup c bytes bad = bad.plan

pub returns-clause-asked : goal.returns-clause-asked
returns-clause-asked c bytes bad = bad.asked

pub returns-clause-stopped : goal.returns-clause-stopped
returns-clause-stopped c bytes bad = bad.stopped
