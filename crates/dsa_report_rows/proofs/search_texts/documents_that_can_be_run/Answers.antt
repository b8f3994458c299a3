use Rattle.dsa_report_rows.proofs.search_texts.documents_that_can_be_run.Goals as goal

pub returns-clause-json : goal.returns-clause-json
returns-clause-json c bytes document caps actions is = is.json

pub returns-clause-head : goal.returns-clause-head
returns-clause-head c bytes document caps actions is = is.head

pub returns-clause-asked : goal.returns-clause-asked
returns-clause-asked c bytes document caps actions is = is.asked

pub returns-clause-opens : goal.returns-clause-opens
returns-clause-opens c bytes document caps actions is = is.opens
