use Rattle.dsa_explain_lines.proofs.parts.add_start_part.Goals as goal
use Rattle.std.proofs.Common.{arith}
use Rattle.std.proofs.lemmas.Grind.{common_steps}

pub returns-then-engine-caps : goal.returns-then-engine-caps
returns-then-engine-caps = grind (arith, common_steps)

pub returns : goal.returns
returns = grind (arith, common_steps)
