use Rattle.dsa_cli.proofs.rows.history_of_a_run.Goals as goal

pub returns-clause-run : goal.returns-clause-run
returns-clause-run c totals run = (
  run.legal,
  run.replayed,
  run.within,
  run.setup,
  run.setup_first,
  run.counted,
  run.balanced,
  run.accepted,
  run.accepted_one,
)

pub returns-clause-accepted_of_one_client : goal.returns-clause-accepted_of_one_client
returns-clause-accepted_of_one_client c totals run = run.accepted

pub returns-clause-clients : goal.returns-clause-clients
returns-clause-clients c totals run client less = (run.submitted client less, run.client_runs client less)

pub returns-clause-engines : goal.returns-clause-engines
returns-clause-engines c totals run = run.engine_runs
