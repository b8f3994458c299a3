use Rattle.dsa_check.proofs.one_step.add_further.Goals as goal
use Rattle.std.proofs.Common.{arith}
use Rattle.std.proofs.lemmas.Grind.{common_steps}

pub loop-reason-preserved : goal.loop-reason-preserved
loop-reason-preserved = grind (arith, common_steps)

pub returns : goal.returns
returns = grind (arith, common_steps)
