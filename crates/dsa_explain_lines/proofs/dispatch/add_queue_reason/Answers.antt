use Rattle.dsa_explain_lines.proofs.dispatch.add_queue_reason.Goals as goal
use Rattle.std.proofs.Common.{arith}
use Rattle.std.proofs.lemmas.Grind.{common_steps}

pub returns-in_ok-add_number-in-NoSlot : goal.returns-in_ok-add_number-in-NoSlot
returns-in_ok-add_number-in-NoSlot = grind (arith, common_steps)

pub returns-in_ok-add_front-in-NoBuffers : goal.returns-in_ok-add_front-in-NoBuffers
returns-in_ok-add_front-in-NoBuffers = grind (arith, common_steps)

pub returns-in_ok-add_front-in-OtherDrain : goal.returns-in_ok-add_front-in-OtherDrain
returns-in_ok-add_front-in-OtherDrain = grind (arith, common_steps)
