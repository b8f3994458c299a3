use Rattle.dsa_cli.proofs.rows.runs_refused.Goals as goal
use Rattle.std.proofs.Common.{List, length, ap, arith}
use Rattle.dsa_book.specs.declared.event.Step.{Step}

pub returns-clause-zeros : goal.returns-clause-zeros
returns-clause-zeros c asked steps run = omega (arith, run.accepted_one)

pub returns-clause-no_setup : goal.returns-clause-no_setup
returns-clause-no_setup c caps capacity asked clients engines seats =
    omega (arith, ap (λ (l : List Step). length l) seats.setup)

pub returns-clause-no_clients : goal.returns-clause-no_clients
returns-clause-no_clients c caps capacity engines admin seats = omega (arith, seats.client_count)

pub returns-clause-no_engines : goal.returns-clause-no_engines
returns-clause-no_engines c caps capacity clients admin seats = omega (arith, seats.engine_count)
