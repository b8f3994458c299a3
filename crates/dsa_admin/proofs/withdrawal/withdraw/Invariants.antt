use Rattle.dsa_admin.proofs.withdrawal.withdraw.Given as goal
use Rattle.std.proofs.Common.{◌≡◌}
use Rattle.dsa_regs.specs.Command.{scope_of}
use Rattle.dsa_queues.specs.Queues.{IsCounted}
use Rattle.dsa_engines.specs.Engines.{IsInStep}
use Rattle.dsa_admin.proofs.{Notes.{swept_notes}, Withdrawals.{IsSwept}}

abbrev pub invariant-loop-list : goal.invariant-loop-list
invariant-loop-list g l = record {
  setup : l.queues.setup ≡ l.initial.queues.setup;
  swept : IsSwept l.command (g.S.EntryStore.content l.initial.store) l.initial.book l.list
      (g.S.EntryStore.content l.store) l.book;
  notes : l.engines.notes ≡ swept_notes l.initial.queues.setup (scope_of l.command)
      (g.S.EntryStore.content l.initial.store) l.initial.engines.notes l.list;
  in_step : IsInStep l.initial.queues.setup l.engines (g.S.EntryStore.cells l.store) (g.S.EntryStore.content l.store);
  counted : IsCounted l.queues (g.S.EntryStore.content l.store);
}
