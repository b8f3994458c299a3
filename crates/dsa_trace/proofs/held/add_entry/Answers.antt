use Rattle.dsa_trace.proofs.held.add_entry.Goals as goal
use Rattle.std.proofs.Common.{arith}
use Rattle.std.proofs.lemmas.Grind.{common_steps}

pub returns : goal.returns
returns = grind (arith, common_steps)
