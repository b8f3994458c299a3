use Rattle.dsa_laws.proofs.laws.unstored_steps_change_nothing.Goals as goal
use Rattle.dsa_laws.proofs.Changes.{next_keeps}

pub returns : goal.returns
returns c = next_keeps
