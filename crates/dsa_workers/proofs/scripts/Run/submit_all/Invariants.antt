use Rattle.dsa_workers.proofs.scripts.Run.submit_all.Given as goal
use Rattle.dsa_workers.proofs.Calls.{SubmitsSoFar}

abbrev pub invariant-loop-turn : goal.invariant-loop-turn
invariant-loop-turn g l =
    SubmitsSoFar g.L.Sharing.caps g.L.Sharing.capacity l.script l.fn.seat l.seat l.turn l.at
