use Rattle.dsa_workers.proofs.scripts.Run.serve.Given as goal
use Rattle.std.proofs.Common.{◌+◌, ◌≤◌}
use Rattle.dsa_workers.proofs.Turns.{TurnsSoFar}

abbrev pub invariant-loop-turn : goal.invariant-loop-turn
invariant-loop-turn g l = record {
  so_far : TurnsSoFar g.L.Sharing.caps g.L.Sharing.capacity l.script l.fn.seat l.seat l.turn l.tickets.tickets;
  room : l.self.turns ≤ l.tickets.room + l.turn;
}
