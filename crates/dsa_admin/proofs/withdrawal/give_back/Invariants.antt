use Rattle.dsa_admin.proofs.withdrawal.give_back.Given as goal
use Rattle.std.proofs.Common.{◌≡◌, ◌++◌, set}
use Rattle.dsa_regs.specs.declared.Scope.TheVariants.{Device}
use Rattle.dsa_store.specs.Content.{chain}
use Rattle.dsa_queues.specs.Queues.{IsCounted}
use Rattle.dsa_engines.specs.Engines.{IsInStep}
use Rattle.dsa_admin.specs.Admin.{notes_left, rows_of_abort}

abbrev pub invariant-loop-held : goal.invariant-loop-held
invariant-loop-held g l = record {
  parts : chain (g.S.EntryStore.content l.fn.store) l.fn.list.0 ≡ l.yielded ++ l.held-iterator;
  setup : l.queues.setup ≡ l.initial.queues.setup;
  rows : l.book ≡ record l.initial.book { fates = l.initial.book.fates ++ rows_of_abort l.command l.yielded };
  notes : l.engines.notes ≡ notes_left l.initial.queues.setup Device l.from l.yielded l.initial.engines.notes;
  in_step : IsInStep l.initial.queues.setup l.engines (g.S.EntryStore.cells l.fn.store)
      (set (g.S.EntryStore.content l.fn.store) l.fn.list.0 l.held-iterator);
  counted : IsCounted l.queues (set (g.S.EntryStore.content l.fn.store) l.fn.list.0 l.held-iterator);
}
