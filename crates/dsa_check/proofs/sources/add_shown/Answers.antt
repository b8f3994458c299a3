use Rattle.dsa_check.proofs.sources.add_shown.Goals as goal
use Rattle.std.proofs.Common.{arith}
use Rattle.std.proofs.lemmas.Grind.{common_steps}

pub loop-byte-preserved : goal.loop-byte-preserved
loop-byte-preserved = grind (arith, common_steps)

pub returns : goal.returns
returns = grind (arith, common_steps)
