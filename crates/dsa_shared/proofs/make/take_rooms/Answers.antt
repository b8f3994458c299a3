use Rattle.dsa_shared.proofs.make.take_rooms.Goals as goal
use Rattle.std.proofs.Common.{arith}
use Rattle.std.proofs.lemmas.Grind.{common_steps}

pub push_reserved-requires : goal.push_reserved-requires
push_reserved-requires = grind (arith, common_steps)
