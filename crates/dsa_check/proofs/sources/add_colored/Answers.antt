use Rattle.dsa_check.proofs.sources.add_colored.Goals as goal
use Rattle.std.proofs.Common.{arith}
use Rattle.std.proofs.lemmas.Grind.{common_steps}

pub returns : goal.returns
returns = grind (arith, common_steps)
