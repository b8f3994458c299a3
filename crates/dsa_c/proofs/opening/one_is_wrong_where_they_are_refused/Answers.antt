use Rattle.dsa_c.proofs.opening.one_is_wrong_where_they_are_refused.Goals as goal
use Rattle.dsa_c.proofs.WrongCaps.{one_is_wrong}

pub returns : goal.returns
returns c = one_is_wrong
