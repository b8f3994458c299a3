use Rattle.dsa_engines.proofs.finishing.first_waited.Given as goal
use Rattle.std.proofs.Common.{◌≡◌, ℕ, ◌+◌, ◌<◌, None}
use Rattle.dsa_engines.proofs.Draining.{waited_in}

abbrev pub invariant-loop-engine : goal.invariant-loop-engine
invariant-loop-engine g l = (j : ℕ) → j < l.engine
    → waited_in (g.S.EntryStore.content l.store) l.drain (l.queues.setup.caps.queues + j) ≡ None
