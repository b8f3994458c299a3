use Rattle.dsa_laws.proofs.laws.changes_are_steps.Goals as goal
use Rattle.dsa_laws.proofs.Steps.{change-steps}

pub returns : goal.returns
returns c = change-steps
