use Rattle.dsa_shared.proofs.settle.gather.Goals as goal
use Rattle.std.proofs.Common.{arith}
use Rattle.std.proofs.lemmas.Grind.{common_steps}

pub loop-seat-preserved : goal.loop-seat-preserved
loop-seat-preserved = grind (arith, common_steps)
