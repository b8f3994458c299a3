use Rattle.dsa_shared.proofs.counts.lost_in.Goals as goal
use Rattle.std.proofs.Common.{arith}
use Rattle.std.proofs.lemmas.Grind.{common_steps}

pub loop-step-preserved : goal.loop-step-preserved
loop-step-preserved = grind (arith, common_steps)

pub returns : goal.returns
returns = grind (arith, common_steps)
