use Rattle.dsa_laws.proofs.laws.engines_work_on_one_batch.Goals as goal
use Rattle.dsa_laws.proofs.Histories.{replay-well_formed}

pub returns : goal.returns
returns c = λ caps h s e. (replay-well_formed caps h s e).engines
