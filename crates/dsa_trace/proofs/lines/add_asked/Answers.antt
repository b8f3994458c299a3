use Rattle.dsa_trace.proofs.lines.add_asked.Goals as goal
use Rattle.std.proofs.Common.{arith}
use Rattle.std.proofs.lemmas.Grind.{common_steps}

pub returns-in-Stepped : goal.returns-in-Stepped
returns-in-Stepped = grind (arith, common_steps)

pub returns-in-Refused : goal.returns-in-Refused
returns-in-Refused = grind (arith, common_steps)
