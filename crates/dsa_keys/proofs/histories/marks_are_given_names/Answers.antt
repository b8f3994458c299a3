use Rattle.dsa_keys.proofs.histories.marks_are_given_names.Goals as goal
use Rattle.dsa_keys.proofs.Marks.{replay-marked}

pub returns : goal.returns
returns c = replay-marked
