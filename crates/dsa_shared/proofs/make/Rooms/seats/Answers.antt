use Rattle.dsa_shared.proofs.make.Rooms.seats.Goals as goal
use Rattle.std.proofs.Common.{arith}
use Rattle.std.proofs.lemmas.Grind.{common_steps}

pub numbered_seats-engines-requires-clause-parts : goal.numbered_seats-engines-requires-clause-parts
numbered_seats-engines-requires-clause-parts = grind (arith, common_steps)
