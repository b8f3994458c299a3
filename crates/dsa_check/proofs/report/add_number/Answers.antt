use Rattle.dsa_check.proofs.report.add_number.Goals as goal
use Rattle.std.proofs.Common.{arith}
use Rattle.std.proofs.lemmas.Grind.{common_steps}

pub returns-in-Some : goal.returns-in-Some
returns-in-Some = grind (arith, common_steps)
