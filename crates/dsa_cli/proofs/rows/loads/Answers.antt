use Rattle.dsa_cli.proofs.rows.loads.Goals as goal
use Rattle.std.proofs.Common.{arith, refl}
use Rattle.dsa_cli.proofs.DecidedLoads.{in_range}

pub returns-clause-least : goal.returns-clause-least
returns-clause-least c = in_range _ refl

pub returns-clause-most : goal.returns-clause-most
returns-clause-most c = in_range _ refl

pub returns-clause-no_client : goal.returns-clause-no_client
returns-clause-no_client c load = omega (arith, load.clients)

pub returns-clause-many_clients : goal.returns-clause-many_clients
returns-clause-many_clients c load = omega (arith, load.clients)

pub returns-clause-no_engine : goal.returns-clause-no_engine
returns-clause-no_engine c load = omega (arith, load.engines)

pub returns-clause-many_engines : goal.returns-clause-many_engines
returns-clause-many_engines c load = omega (arith, load.engines)

pub returns-clause-nothing_each : goal.returns-clause-nothing_each
returns-clause-nothing_each c load = omega (arith, load.each)

pub returns-clause-much_each : goal.returns-clause-much_each
returns-clause-much_each c load = omega (arith, load.each)

pub returns-clause-no_turn : goal.returns-clause-no_turn
returns-clause-no_turn c load = omega (arith, load.turns)

pub returns-clause-many_turns : goal.returns-clause-many_turns
returns-clause-many_turns c load = omega (arith, load.turns)

pub returns-clause-no_size : goal.returns-clause-no_size
returns-clause-no_size c load = omega (arith, load.size)

pub returns-clause-large_size : goal.returns-clause-large_size
returns-clause-large_size c load = omega (arith, load.size)

pub returns-clause-no_threshold : goal.returns-clause-no_threshold
returns-clause-no_threshold c load = omega (arith, load.threshold)

pub returns-clause-high_threshold : goal.returns-clause-high_threshold
returns-clause-high_threshold c load = omega (arith, load.threshold)

pub returns-clause-no_slot : goal.returns-clause-no_slot
returns-clause-no_slot c load = omega (arith, load.slots)

pub returns-clause-many_slots : goal.returns-clause-many_slots
returns-clause-many_slots c load = omega (arith, load.slots)

pub returns-clause-few_buffers : goal.returns-clause-few_buffers
returns-clause-few_buffers c load = omega (arith, load.buffers)

pub returns-clause-many_buffers : goal.returns-clause-many_buffers
returns-clause-many_buffers c load = omega (arith, load.buffers)
