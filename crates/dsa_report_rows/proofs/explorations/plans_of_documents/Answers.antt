use Rattle.dsa_report_rows.proofs.explorations.plans_of_documents.Goals as goal

pub returns-clause-json : goal.returns-clause-json
returns-clause-json c bytes caps script events labels acts watches plan = plan.runnable.json

pub returns-clause-parties : goal.returns-clause-parties
returns-clause-parties c bytes caps script events labels acts watches plan = plan.said

pub returns-clause-engines : goal.returns-clause-engines
returns-clause-engines c bytes fault bad = bad.said
