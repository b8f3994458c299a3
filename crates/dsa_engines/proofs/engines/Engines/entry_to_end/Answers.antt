use Rattle.dsa_engines.proofs.engines.Engines.entry_to_end.Goals as goal
use Rattle.std.proofs.Common.{[]}
use Rattle.dsa_engines.{specs.Engines.{work}, proofs.EndReasons.{ready-waits}}

pub returns-in-None-clause-ready : goal.returns-in-None-clause-ready
returns-in-None-clause-ready g c =
    ready-waits (work c.args.queues.now.setup c.args.self.now (g.S.EntryStore.content c.args.store.now) [])
    c.args.engine c.in_ok-entry.entry c.in-None.ensures
