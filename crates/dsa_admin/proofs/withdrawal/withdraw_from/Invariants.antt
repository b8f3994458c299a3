use Rattle.dsa_admin.proofs.withdrawal.withdraw_from.Given as goal
use Rattle.std.proofs.Common.{◌≡◌, take, drop}
use Rattle.dsa_store.specs.Content.{chain, first_cell}
use Rattle.dsa_regs.specs.Command.{scope_of}
use Rattle.dsa_queues.specs.Queues.{IsCounted}
use Rattle.dsa_engines.specs.Engines.{IsInStep}
use Rattle.dsa_admin.{specs.Admin.{notes_left}, proofs.Withdrawals.{IsWithdrawn}}

abbrev pub invariant-loop-place : goal.invariant-loop-place
invariant-loop-place g l = record {
  here : l.at ≡ first_cell (drop l._place (chain (g.S.EntryStore.content l.initial.store) l.fn.list.0));
  setup : l.queues.setup ≡ l.initial.queues.setup;
  withdrawn : IsWithdrawn l.command (g.S.EntryStore.content l.initial.store) l.initial.book l.fn.list.0 l._place
      (g.S.EntryStore.content l.store) l.book;
  notes : l.engines.notes ≡ notes_left l.initial.queues.setup (scope_of l.command) l.from
      (take l._place (chain (g.S.EntryStore.content l.initial.store) l.fn.list.0)) l.initial.engines.notes;
  in_step : IsInStep l.initial.queues.setup l.engines (g.S.EntryStore.cells l.store) (g.S.EntryStore.content l.store);
  counted : IsCounted l.queues (g.S.EntryStore.content l.store);
}
