use Rattle.dsa_workers.proofs.tickets.Tickets.add.Goals as goal
use Rattle.std.proofs.Common.{arith}
use Rattle.std.proofs.lemmas.Grind.{common_steps}

pub returns-clause-tickets : goal.returns-clause-tickets
returns-clause-tickets = grind (arith, common_steps)
