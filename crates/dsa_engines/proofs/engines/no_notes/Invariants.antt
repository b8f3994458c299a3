use Rattle.dsa_engines.proofs.engines.no_notes.Given as goal
use Rattle.std.proofs.Common.{◌≡◌, None, replicate}

abbrev pub invariant-loop : goal.invariant-loop
invariant-loop l = l.notes.items ≡ replicate l.counter None
