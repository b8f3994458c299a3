use Rattle.dsa_report_rows.proofs.search_texts.no_text_without_a_search.Goals as goal

pub returns-clause-setup : goal.returns-clause-setup
returns-clause-setup c form bounds bytes text is = (is.0, is.1)

pub returns-clause-no_parties : goal.returns-clause-no_parties
returns-clause-no_parties c form bounds bytes text is = (is.0, is.1)

pub returns-clause-parties : goal.returns-clause-parties
returns-clause-parties c form bounds bytes text is = (is.0, is.1)

pub returns-clause-party : goal.returns-clause-party
returns-clause-party c form bounds bytes text is = (is.0, is.1)

pub returns-clause-many : goal.returns-clause-many
returns-clause-many c form bounds bytes text is = (is.0, is.1)

pub returns-clause-question : goal.returns-clause-question
returns-clause-question c form bounds bytes text is = (is.0, is.1)
