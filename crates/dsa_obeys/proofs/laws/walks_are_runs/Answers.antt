use Rattle.dsa_obeys.proofs.laws.walks_are_runs.Goals as goal
use Rattle.dsa_obeys.proofs.Logs.{left-log}

pub returns : goal.returns
returns c = left-log
