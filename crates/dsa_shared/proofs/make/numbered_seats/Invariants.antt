use Rattle.dsa_shared.proofs.make.numbered_seats.Given as goal
use Rattle.std.proofs.Common.{◌≡◌, ℕ, ◌+◌, ◌<◌, ◌≤◌, get_or, vec_len, vec_capacity, vec_items}
use Rattle.std.specs.Vec.Iter.{into_iter_len}
use Rattle.dsa_shared.specs.Seat.{SeatLog, fresh}

abbrev pub invariant-loop-room : goal.invariant-loop-room
invariant-loop-room g l = record {
  count : l.number + into_iter_len l.room-iterator ≡ vec_len l.fn.rooms;
  len : vec_len l.seats ≡ l.number;
  room : vec_len l.fn.rooms ≤ vec_capacity l.seats;
  parts : l.rest.parts + l.number ≡ l.initial.rest.parts;
  amount : l.rest.amount ≡ 0;
  fresh : (k : ℕ) (d : SeatLog) → k < l.number → get_or (vec_items l.seats) k d ≡ fresh k;
}
