use Rattle.dsa_report_rows.proofs.search_texts.rows_of_a_search.Goals as goal

pub returns-clause-search : goal.returns-clause-search
returns-clause-search c bounds name bytes text shown = shown.search

pub returns-clause-named : goal.returns-clause-named
returns-clause-named c bounds name bytes text shown = shown.named

pub returns-clause-document : goal.returns-clause-document
returns-clause-document c bounds name bytes text shown = shown.document

pub returns-clause-plan : goal.returns-clause-plan
returns-clause-plan c bounds bytes caps script setup labels acts explored is = is.plan

pub returns-clause-within : goal.returns-clause-within
returns-clause-within c bounds bytes caps script setup labels acts explored is = is.search

pub returns-clause-searched : goal.returns-clause-searched
returns-clause-searched c bounds name bytes has = has.search

pub returns-clause-complete : goal.returns-clause-complete
returns-clause-complete c bounds name bytes has = has.complete

pub returns-clause-none : goal.returns-clause-none
returns-clause-none c bounds name bytes has = has.none

pub returns-clause-not_begun : goal.returns-clause-not_begun
returns-clause-not_begun c name bytes has = has.plan

pub returns-clause-stopped : goal.returns-clause-stopped
returns-clause-stopped c name bytes has = has.stopped
