use Rattle.dsa_shared_rows.proofs.workers.workers_of_seats.Goals as goal
use Rattle.std.proofs.Common.{ℕ, zero, suc, [], ◌∷◌, arith, refl}
use Rattle.std.specs.declared.alloc.Global.{Global}
use Rattle.dsa_workers.specs.declared.scripts.{WorkerEnd.TheVariants.{TurnsOut}}
use Rattle.dsa_workers.proofs.Turns.{turns_none, turns_out}
use Rattle.dsa_workers.specs.Workers.{ReportsEngines, RunsEngine, RunsEngines}
use Rattle.dsa_shared_rows.specs.Worked.{lane_of, member_script, report_of, script_vector, seat_of, stint_of}
use Rattle.dsa_shared_rows.specs.Worked.{wide_device}

-- an engine without a turn
no_turn : (number : ℕ)
    → RunsEngine wide_device 9 member_script 0 (seat_of number []) (seat_of number []) (stint_of 0 TurnsOut)
no_turn number = turns_out _ _ _ _ _ _ 0 _ (turns_none _ _ _ _ [] refl) refl

engines : (memory : Global) → ReportsEngines wide_device 9 (member_script ∷ member_script ∷ []) 0 1
    (seat_of 3 [] ∷ seat_of 4 [] ∷ []) (seat_of 3 [] ∷ seat_of 4 [] ∷ []) (report_of memory)
engines memory zero d e lt = no_turn 3
engines memory (suc zero) d e lt = no_turn 4
engines memory (suc (suc k)) d e lt = absurd (omega (arith, lt))

lanes : RunsEngines wide_device 9 (member_script ∷ []) 0 (lane_of (seat_of 3 []) ∷ []) (lane_of (seat_of 3 []) ∷ [])
lanes zero d e lt = no_turn 3
lanes (suc k) d e lt = absurd (omega (arith, lt))

pub returns-clause-no_clients : goal.returns-clause-no_clients
returns-clause-no_clients c memory k d e lt = absurd (omega (arith, lt))

pub returns-clause-other_client : goal.returns-clause-other_client
returns-clause-other_client c memory is = omega (arith, (is 0 (seat_of 0 []) (script_vector memory) (omega arith)).number)

pub returns-clause-engines : goal.returns-clause-engines
returns-clause-engines c memory = engines memory

pub returns-clause-other_engine : goal.returns-clause-other_engine
returns-clause-other_engine c memory is = omega (arith, (is 0 (seat_of 0 []) member_script (omega arith)).number)

pub returns-clause-no_lanes : goal.returns-clause-no_lanes
returns-clause-no_lanes c k d e lt = absurd (omega (arith, lt))

pub returns-clause-other_lane : goal.returns-clause-other_lane
returns-clause-other_lane c memory is = omega (arith, (is 0 (lane_of (seat_of 0 [])) (script_vector memory) (omega arith)).number)

pub returns-clause-engine_lanes : goal.returns-clause-engine_lanes
returns-clause-engine_lanes c = lanes

pub returns-clause-other_engine_lane : goal.returns-clause-other_engine_lane
returns-clause-other_engine_lane c is = omega (arith, (is 0 (lane_of (seat_of 0 [])) member_script (omega arith)).number)
