use Rattle.dsa_workers.proofs.lanes.ticket_rooms.Given as goal
use Rattle.std.{proofs.Common.{◌≡◌, vec_len, vec_items}, specs.Prelude.{All}}
use Rattle.dsa_workers.specs.Calls.{HasRoomForTickets}

abbrev pub invariant-loop-i : goal.invariant-loop-i
invariant-loop-i g l = (vec_len l.rooms ≡ l._i)
    × All (λ t. HasRoomForTickets t l.room) (vec_items l.rooms)
