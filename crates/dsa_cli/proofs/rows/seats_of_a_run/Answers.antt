use Rattle.dsa_cli.proofs.rows.seats_of_a_run.Goals as goal
use Rattle.std.proofs.Common.{refl, arith}

pub returns-clause-nobody : goal.returns-clause-nobody
returns-clause-nobody c = record {
  client_count = refl;
  engine_count = refl;
  accepted = λ seat other less. absurd (omega (arith, less));
  client_steps = λ seat other less. absurd (omega (arith, less));
  engine_steps = λ seat other less. absurd (omega (arith, less));
  numbers = λ client other less. omega (arith, less);
  submitted = λ client other less. absurd (omega (arith, less));
  setup = refl;
  client_runs = λ client other less. absurd (omega (arith, less));
  engine_runs = λ engine other less. absurd (omega (arith, less));
}

pub returns-clause-seats : goal.returns-clause-seats
returns-clause-seats c clients engines admin seats = (
  seats.client_count,
  seats.engine_count,
  seats.accepted,
  seats.client_steps,
  seats.engine_steps,
  seats.setup,
)

pub returns-clause-clients : goal.returns-clause-clients
returns-clause-clients c clients engines admin seats client other less =
    (seats.numbers client other less, seats.submitted client other less, seats.client_runs client other less)

pub returns-clause-engine_runs : goal.returns-clause-engine_runs
returns-clause-engine_runs c clients engines admin seats = seats.engine_runs
