use Rattle.dsa_explain_lines.proofs.words.add_two_groups.Goals as goal
use Rattle.std.proofs.Common.{arith}
use Rattle.std.proofs.lemmas.Grind.{common_steps}

pub returns : goal.returns
returns = grind (arith, common_steps)
