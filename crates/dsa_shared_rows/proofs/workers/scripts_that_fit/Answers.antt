use Rattle.dsa_shared_rows.proofs.workers.scripts_that_fit.Goals as goal
use Rattle.std.proofs.Common.{refl}

pub returns-clause-fits : goal.returns-clause-fits
returns-clause-fits c = record { each_client = refl; each_engine = refl; has_admin = refl }
