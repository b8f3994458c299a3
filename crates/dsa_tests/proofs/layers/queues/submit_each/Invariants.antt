use Rattle.dsa_tests.proofs.layers.queues.submit_each.Given as goal
use Rattle.dsa_queues.specs.Queues.{IsCounted}

abbrev pub invariant-loop-queue : goal.invariant-loop-queue
invariant-loop-queue g l = IsCounted l.queues (g.S.EntryStore.content l.store)
