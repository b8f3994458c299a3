use Rattle.dsa_laws.proofs.laws.refusals_have_their_cause.Goals as goal
use Rattle.dsa_laws.proofs.Refusals.{submit-cause, history-causes}

pub returns-clause-step : goal.returns-clause-step
returns-clause-step c = submit-cause

pub returns-clause-history : goal.returns-clause-history
returns-clause-history c = history-causes
