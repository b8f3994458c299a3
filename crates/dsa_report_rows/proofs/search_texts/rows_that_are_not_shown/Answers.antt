use Rattle.dsa_report_rows.proofs.search_texts.rows_that_are_not_shown.Goals as goal
use Rattle.std.proofs.Common.{refl}

pub returns-clause-shown : goal.returns-clause-shown
returns-clause-shown c bounds name bytes text is = is

pub returns-clause-no_row : goal.returns-clause-no_row
returns-clause-no_row c bounds name bytes has = (refl, has)

pub returns-clause-bounded : goal.returns-clause-bounded
returns-clause-bounded c bounds name bytes has = (refl, has)

pub returns-clause-setup : goal.returns-clause-setup
returns-clause-setup c bounds name bytes has = (refl, has)

pub returns-clause-no_row_told : goal.returns-clause-no_row_told
returns-clause-no_row_told c bounds name bytes text is = (is.0, is.1)

pub returns-clause-bounded_told : goal.returns-clause-bounded_told
returns-clause-bounded_told c bounds name bytes text is = (is.0, is.1)

pub returns-clause-setup_told : goal.returns-clause-setup_told
returns-clause-setup_told c bounds name bytes text is = (is.0, is.1)

pub returns-clause-no_question : goal.returns-clause-no_question
returns-clause-no_question c bounds name bytes text is = is

pub returns-clause-not_broken : goal.returns-clause-not_broken
returns-clause-not_broken c bounds name bytes text is = is
