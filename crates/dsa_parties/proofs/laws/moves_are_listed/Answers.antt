use Rattle.dsa_parties.proofs.laws.moves_are_listed.Goals as goal
use Rattle.dsa_parties.proofs.Listed.{listed}

pub returns : goal.returns
returns c = listed
