use Rattle.dsa_statement_rows.proofs.saved.records_with_a_fault.Goals as goal
use Rattle.std.proofs.Common.{arith}

pub returns-clause-no_event : goal.returns-clause-no_event
returns-clause-no_event c fault = absurd (omega (arith, fault.0.long))

pub returns-clause-no_step : goal.returns-clause-no_step
returns-clause-no_step c fault = absurd (omega (arith, fault.0.long))

pub returns-clause-answered : goal.returns-clause-answered
returns-clause-answered c said d other = other.answered
