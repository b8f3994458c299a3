use Rattle.dsa_conform.proofs.way.first_way.Goals as goal
use Rattle.dsa_conform.proofs.Walks.{followed_none}

pub returns : goal.returns
returns c = followed_none _ _ _ _ c.in-Ok.ensures.first
