use Rattle.dsa_engines.proofs.starting.abandon_all.Given as goal
use Rattle.std.proofs.Common.{◌≡◌, ◌++◌, map, set}
use Rattle.dsa_store.specs.Content.{chain}
use Rattle.dsa_book.specs.{declared.fate.Fate.TheVariants.{Abandoned}, Work.{fate_row}}
use Rattle.dsa_queues.specs.Queues.{IsCounted}

abbrev pub invariant-loop-entry : goal.invariant-loop-entry
invariant-loop-entry g l = record {
  parts : chain (g.S.EntryStore.content l.store) l.fn.list.0 ≡ l.yielded ++ l.entry-iterator;
  rows : l.book ≡ record l.fn.book { fates = l.fn.book.fates ++ map (fate_row Abandoned) l.yielded };
  setup : l.queues.setup ≡ l.fn.queues.setup;
  counted : IsCounted l.queues (set (g.S.EntryStore.content l.store) l.fn.list.0 l.entry-iterator);
}
