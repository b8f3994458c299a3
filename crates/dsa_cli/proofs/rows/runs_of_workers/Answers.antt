use Rattle.dsa_cli.proofs.rows.runs_of_workers.Goals as goal

pub returns-clause-client : goal.returns-clause-client
returns-clause-client c seat ran = (ran.2, ran.3, ran.4, ran.5)

pub returns-clause-engine : goal.returns-clause-engine
returns-clause-engine c seat ran = (ran.1, ran.2)
