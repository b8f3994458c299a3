use Rattle.dsa_conform.proofs.told.add_lines.Goals as goal
use Rattle.std.proofs.Common.{arith}
use Rattle.std.proofs.lemmas.Grind.{common_steps}

pub loop-line-preserved : goal.loop-line-preserved
loop-line-preserved = grind (arith, common_steps)

pub returns : goal.returns
returns = grind (arith, common_steps)
