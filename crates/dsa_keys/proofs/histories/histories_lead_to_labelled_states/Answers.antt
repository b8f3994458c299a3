use Rattle.dsa_keys.proofs.histories.histories_lead_to_labelled_states.Goals as goal
use Rattle.dsa_keys.proofs.Labelled.{histories-labelled}

pub returns : goal.returns
returns c = histories-labelled
