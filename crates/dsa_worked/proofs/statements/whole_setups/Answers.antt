use Rattle.dsa_worked.proofs.statements.whole_setups.Goals as goal
use Rattle.std.proofs.Common.{refl}

pub returns-clause-of_many_queues : goal.returns-clause-of_many_queues
returns-clause-of_many_queues c = record { lawful = refl; configs = refl; phases = refl; groups = refl }

pub returns-clause-of_many_groups : goal.returns-clause-of_many_groups
returns-clause-of_many_groups c = record { lawful = refl; configs = refl; phases = refl; groups = refl }
