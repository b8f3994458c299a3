use Rattle.dsa_obeys.proofs.rows.logs_that_obey.Goals as goal
use Rattle.std.proofs.Common.{refl}
use Rattle.dsa_obeys.specs.Worked.{whole_log}

pub returns-clause-written : goal.returns-clause-written
returns-clause-written c memory = record { log = whole_log; steps_are = refl; holds = refl }
