use Rattle.dsa_laws.proofs.laws.steps_follow_those_before.Goals as goal
use Rattle.dsa_laws.proofs.Refusals.{step-within}

pub returns : goal.returns
returns c = step-within
