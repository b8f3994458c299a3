use Rattle.dsa_worked.proofs.statements.places_in_lists.Goals as goal
use Rattle.std.proofs.Common.{lit≤, refl}

pub returns-clause-second : goal.returns-clause-second
returns-clause-second c = record { within = lit≤ tt; pair = refl }
