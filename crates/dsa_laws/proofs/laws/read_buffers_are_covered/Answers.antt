use Rattle.dsa_laws.proofs.laws.read_buffers_are_covered.Goals as goal
use Rattle.dsa_laws.proofs.Histories.{replay-well_formed}

pub returns : goal.returns
returns c = λ caps h s e. (replay-well_formed caps h s e).buffers
