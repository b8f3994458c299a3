use Rattle.dsa_check.proofs.report.add_syntax.Goals as goal
use Rattle.std.proofs.Common.{arith}
use Rattle.std.proofs.lemmas.Grind.{elements}

pub returns-in-CommaBefore : goal.returns-in-CommaBefore
returns-in-CommaBefore = grind (arith, elements)

pub returns-in-Comment : goal.returns-in-Comment
returns-in-Comment = grind (arith, elements)
