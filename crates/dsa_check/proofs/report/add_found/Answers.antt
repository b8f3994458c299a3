use Rattle.dsa_check.proofs.report.add_found.Goals as goal
use Rattle.std.proofs.Common.{arith}
use Rattle.std.proofs.lemmas.Grind.{elements}

pub returns-in-Number : goal.returns-in-Number
returns-in-Number = grind (arith, elements)
