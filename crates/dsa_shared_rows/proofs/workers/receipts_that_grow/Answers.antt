use Rattle.dsa_shared_rows.proofs.workers.receipts_that_grow.Goals as goal
use Rattle.std.proofs.Common.{lit≤, refl}

pub returns-clause-one : goal.returns-clause-one
returns-clause-one c = record { prefix = refl; bound = lit≤ tt }

pub returns-clause-none : goal.returns-clause-none
returns-clause-none c = record { prefix = refl; bound = lit≤ tt }
