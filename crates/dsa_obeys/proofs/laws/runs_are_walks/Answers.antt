use Rattle.dsa_obeys.proofs.laws.runs_are_walks.Goals as goal
use Rattle.dsa_obeys.proofs.Walks.{walked}

pub returns : goal.returns
returns c = walked
