use Rattle.dsa_shared.proofs.make.Rooms.new.Goals as goal
use Rattle.std.proofs.Common.{arith}
use Rattle.std.proofs.lemmas.Grind.{common_steps}

pub returns-in_err-client_rooms-clause-clients : goal.returns-in_err-client_rooms-clause-clients
returns-in_err-client_rooms-clause-clients = grind (arith, common_steps)

pub returns-in_err-client_rooms-clause-engines : goal.returns-in_err-client_rooms-clause-engines
returns-in_err-client_rooms-clause-engines = grind (arith, common_steps)
