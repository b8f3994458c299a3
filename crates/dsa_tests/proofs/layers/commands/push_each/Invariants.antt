use Rattle.dsa_tests.proofs.layers.commands.push_each.Given as goal
use Rattle.dsa_tests.specs.Parts.{AllAgree}

abbrev pub invariant-loop-queue : goal.invariant-loop-queue
invariant-loop-queue g l = AllAgree l.parts.queues l.parts.engines l.parts.admin l.parts.book
    (g.S.EntryStore.cells l.parts.store) (g.S.EntryStore.content l.parts.store)
