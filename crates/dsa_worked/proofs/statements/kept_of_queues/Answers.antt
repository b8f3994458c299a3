use Rattle.dsa_worked.proofs.statements.kept_of_queues.Goals as goal
use Rattle.std.proofs.Common.{refl}

pub returns-clause-kept : goal.returns-clause-kept
returns-clause-kept c = record {
  whole = record { lawful = refl; configs = refl; phases = refl; groups = refl };
  numbers = refl;
}

pub returns-clause-counted : goal.returns-clause-counted
returns-clause-counted c = record { counts = refl; named = refl }
