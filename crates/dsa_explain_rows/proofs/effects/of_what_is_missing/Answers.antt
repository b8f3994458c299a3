use Rattle.dsa_explain_rows.proofs.effects.of_what_is_missing.Goals as goal
use Rattle.std.proofs.Common.{refl}

pub returns-clause-empty_queue : goal.returns-clause-empty_queue
returns-clause-empty_queue c is = let found = is.is_front in absurd cc

pub returns-clause-first_queue : goal.returns-clause-first_queue
returns-clause-first_queue c = record {
  queue = 0;
  granted = record { idle = refl; queues = refl; phases = refl; check = refl };
  after = refl;
}
