use Rattle.dsa_shared.proofs.make.take_rooms.Given as goal
use Rattle.std.proofs.Common.{◌≡◌, ◌≤◌, vec_len, vec_capacity}

abbrev pub invariant-loop-i : goal.invariant-loop-i
invariant-loop-i g l = (vec_len l.rooms ≡ l._i) × (l.count ≤ vec_capacity l.rooms)
