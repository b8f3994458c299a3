use Rattle.dsa_c.proofs.why.dispatches_take_as_is_said.Goals as goal
use Rattle.dsa_c.proofs.Offers.{takes}

pub returns : goal.returns
returns c = takes
