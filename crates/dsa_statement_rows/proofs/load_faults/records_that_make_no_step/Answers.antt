use Rattle.dsa_statement_rows.proofs.load_faults.records_that_make_no_step.Goals as goal

pub returns-clause-event : goal.returns-clause-event
returns-clause-event c bytes is = (is.0, is.1)

pub returns-clause-step : goal.returns-clause-step
returns-clause-step c bytes is = (is.0, is.1)

pub returns-clause-made : goal.returns-clause-made
returns-clause-made c records first is = is.made

pub returns-clause-causes : goal.returns-clause-causes
returns-clause-causes c records first is = is.causes

pub returns-clause-no_event : goal.returns-clause-no_event
returns-clause-no_event c said d is = is.1

pub returns-clause-same_number : goal.returns-clause-same_number
returns-clause-same_number c said d number n is = is.0

pub returns-clause-other : goal.returns-clause-other
returns-clause-other c said d is = is.1

pub returns-clause-says : goal.returns-clause-says
returns-clause-says c said d other = other.says

pub returns-clause-chosen : goal.returns-clause-chosen
returns-clause-chosen c said d other stored = other.other stored
