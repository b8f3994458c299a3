use Rattle.dsa_laws.proofs.laws.steps_look_at_no_fates.Goals as goal
use Rattle.dsa_laws.proofs.Forgotten.{next-past}

pub returns : goal.returns
returns c = next-past
