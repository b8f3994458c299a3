use Rattle.dsa_explain_rows.proofs.devices.replays.Goals as goal
use Rattle.std.proofs.Common.{ap, arith, lit≤, refl}
use Rattle.std.specs.Prelude.{Option, option_map, unwrap_or}
use Rattle.dsa_book.specs.State.{State}

pub returns-clause-new : goal.returns-clause-new
returns-clause-new c = record { caps = refl; bounded = lit≤ tt; within = lit≤ tt; legal = refl; replayed = refl }

pub returns-clause-one_step : goal.returns-clause-one_step
returns-clause-one_step c = record { caps = refl; bounded = lit≤ tt; within = lit≤ tt; legal = refl; replayed = refl }

pub returns-clause-replayed : goal.returns-clause-replayed
returns-clause-replayed c is = omega (
  arith,
  ap (λ (o : Option State). unwrap_or (option_map (λ (s : State). s.work.setup.caps.queues) o) 0) is.replayed,
)
