use Rattle.dsa_workers.proofs.scripts.Run.run_engine_lanes.Goals as goal
use Rattle.std.proofs.Common.{arith}
use Rattle.std.proofs.lemmas.Grind.{common_steps}

pub run_engines-requires-clause-tickets : goal.run_engines-requires-clause-tickets
run_engines-requires-clause-tickets = grind (arith, common_steps)
