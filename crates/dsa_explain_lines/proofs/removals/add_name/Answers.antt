use Rattle.dsa_explain_lines.proofs.removals.add_name.Goals as goal
use Rattle.std.proofs.Common.{arith}
use Rattle.std.proofs.lemmas.Grind.{common_steps}

pub returns : goal.returns
returns = grind (arith, common_steps)
