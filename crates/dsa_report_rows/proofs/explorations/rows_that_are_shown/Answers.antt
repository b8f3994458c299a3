use Rattle.dsa_report_rows.proofs.explorations.rows_that_are_shown.Goals as goal
use Rattle.std.proofs.Common.{ap, arith, length}

pub returns-clause-schedule : goal.returns-clause-schedule
returns-clause-schedule c bounds name bytes text shown = shown.schedule

pub returns-clause-no_such_row : goal.returns-clause-no_such_row
returns-clause-no_such_row c bounds name bytes is = is.1.complete

pub returns-clause-no_search : goal.returns-clause-no_search
returns-clause-no_search c bounds name bytes is = is.1.stopped

pub returns-clause-bad_question : goal.returns-clause-bad_question
returns-clause-bad_question c form bounds bytes i is = absurd (omega (arith, ap length is.0))
