use Rattle.dsa_draw.proofs.drawing.add_step_number.Goals as goal
use Rattle.std.proofs.Common.{arith}
use Rattle.std.proofs.lemmas.Grind.{common_steps}

pub returns : goal.returns
returns = grind (arith, common_steps)
