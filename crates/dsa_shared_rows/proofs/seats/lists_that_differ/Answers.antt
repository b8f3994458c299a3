use Rattle.dsa_shared_rows.proofs.seats.lists_that_differ.Goals as goal
use Rattle.std.proofs.Common.{arith, refl}

pub returns-clause-second : goal.returns-clause-second
returns-clause-second c = (refl, λ same. grind (arith, same))

pub returns-clause-ended : goal.returns-clause-ended
returns-clause-ended c = (refl, λ same. grind (arith, same))

pub returns-clause-alike_there : goal.returns-clause-alike_there
returns-clause-alike_there c is = is.1 refl
