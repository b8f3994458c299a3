use Rattle.dsa_workers.proofs.lanes.unload.Given as goal
use Rattle.std.proofs.Common.{◌≡◌, ◌+◌, ◌≤◌, ◌++◌, map, vec_len, vec_capacity, vec_items}
use Rattle.std.specs.Vec.Iter.{into_iter_len, into_iter_items}

abbrev pub invariant-loop-lane : goal.invariant-loop-lane
invariant-loop-lane g l = record {
  all : l.yielded ++ into_iter_items l.lane-iterator ≡ vec_items l.fn.lanes;
  seats : vec_items l.seats ≡ map (λ x. x.seat) l.yielded;
  turns : vec_items l.report.turns ≡ vec_items l.initial.report.turns ++ map (λ x. x.stint.turns) l.yielded;
  ended : vec_items l.report.ended ≡ vec_items l.initial.report.ended ++ map (λ x. x.stint.ended) l.yielded;
  seat_room : vec_len l.seats + into_iter_len l.lane-iterator ≤ vec_capacity l.seats;
  turn_room : vec_len l.report.turns + into_iter_len l.lane-iterator ≤ vec_capacity l.report.turns;
  ended_room : vec_len l.report.ended + into_iter_len l.lane-iterator ≤ vec_capacity l.report.ended;
  turns_grow : vec_capacity l.initial.report.turns ≤ vec_capacity l.report.turns;
  ended_grow : vec_capacity l.initial.report.ended ≤ vec_capacity l.report.ended;
}
