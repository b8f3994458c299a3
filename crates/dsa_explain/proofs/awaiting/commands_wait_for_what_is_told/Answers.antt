use Rattle.dsa_explain.proofs.awaiting.commands_wait_for_what_is_told.Goals as goal
use Rattle.std.proofs.Common.{arith}
use Rattle.std.proofs.lemmas.Grind.{common_steps}
use Rattle.dsa_explain.proofs.Active.{first-there}

pub returns : goal.returns
returns c = λ s active is. rw is (grind (arith, common_steps, first-there s active))
