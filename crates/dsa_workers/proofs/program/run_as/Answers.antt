use Rattle.dsa_workers.proofs.program.run_as.Goals as goal
use Rattle.std.proofs.Common.{arith}
use Rattle.std.proofs.lemmas.Grind.{common_steps}

pub returns-in-Err-settle-clause-bad_clients : goal.returns-in-Err-settle-clause-bad_clients
returns-in-Err-settle-clause-bad_clients = grind (arith, common_steps)
