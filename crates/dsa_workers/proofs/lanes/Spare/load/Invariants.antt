use Rattle.dsa_workers.proofs.lanes.Spare.load.Given as goal
use Rattle.std.proofs.Common.{◌≡◌, ◌+◌, ◌≤◌, ◌++◌, [], map, vec_len, vec_capacity, vec_items}
use Rattle.std.specs.{Prelude.{All}, Vec.Iter.{drain_len, drain_items, drain_kept, drain_capacity}}
use Rattle.dsa_workers.specs.Calls.{HasRoomForTickets}

abbrev pub invariant-loop-seat : goal.invariant-loop-seat
invariant-loop-seat g l = record {
  all : l.yielded ++ drain_items l.seat-iterator ≡ vec_items l.fn.seats;
  seats : map (λ x. x.seat) (vec_items l.lanes) ≡ l.yielded;
  tickets : All (λ x. HasRoomForTickets x.tickets l.limit) (vec_items l.lanes);
  rooms : All (λ v. HasRoomForTickets v l.limit) (vec_items l.rooms);
  count : vec_len l.rooms ≡ drain_len l.seat-iterator;
  lane_room : vec_len l.lanes + vec_len l.rooms ≤ vec_capacity l.lanes;
  kept : drain_kept l.seat-iterator ≡ [];
  capacity : vec_len l.fn.seats ≤ drain_capacity l.seat-iterator;
}
