use Rattle.dsa_report_rows.proofs.party_reports.places_of_complaints.Goals as goal

pub returns-clause-json : goal.returns-clause-json
returns-clause-json c bytes subject complaint spot is = is.json

pub returns-clause-part : goal.returns-clause-part
returns-clause-part c bytes subject complaint spot is = is.of_part

pub returns-clause-text : goal.returns-clause-text
returns-clause-text c bytes subject complaint spot is = is.text

pub returns-clause-aimed : goal.returns-clause-aimed
returns-clause-aimed c bytes subject complaint spot is = is.aimed

pub returns-clause-at : goal.returns-clause-at
returns-clause-at c bytes subject complaint spot is = is.at

pub returns-clause-placed : goal.returns-clause-placed
returns-clause-placed c bytes subject complaint spot is = is.placed
