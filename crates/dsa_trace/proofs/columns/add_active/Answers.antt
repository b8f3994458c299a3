use Rattle.dsa_trace.proofs.columns.add_active.Goals as goal
use Rattle.std.proofs.Common.{arith}
use Rattle.std.proofs.lemmas.Grind.{common_steps}

pub returns-in_ok-add_marked-in-Some-Some : goal.returns-in_ok-add_marked-in-Some-Some
returns-in_ok-add_marked-in-Some-Some = grind (arith, common_steps)
