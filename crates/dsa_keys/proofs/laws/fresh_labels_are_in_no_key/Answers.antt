use Rattle.dsa_keys.proofs.laws.fresh_labels_are_in_no_key.Goals as goal
use Rattle.dsa_keys.proofs.SameSteps.{key-named}

pub returns : goal.returns
returns c = key-named
