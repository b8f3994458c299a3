use Rattle.dsa_worked.proofs.statements.stores_of_devices.Goals as goal
use Rattle.std.proofs.Common.{refl}

pub returns-clause-of_many_queues : goal.returns-clause-of_many_queues
returns-clause-of_many_queues c = record { lists = refl; cells = refl }
