use Rattle.dsa_queues.proofs.queues.no_entries.Given as goal
use Rattle.std.proofs.Common.{◌≡◌, replicate}

abbrev pub invariant-loop : goal.invariant-loop
invariant-loop l = l.held.items ≡ replicate l.counter 0
