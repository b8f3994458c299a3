use Rattle.dsa_engines.proofs.engines.Engines.dispatch.Goals as goal
use Rattle.std.proofs.Common.{[], refl}
use Rattle.dsa_book.specs.Work.{qualifies}
use Rattle.dsa_engines.specs.Engines.{work}
use Rattle.dsa_engines.proofs.Dispatching.{none-below}

pub returns-in_default-clause-free : goal.returns-in_default-clause-free
returns-in_default-clause-free g c =
    let none = none-below (qualifies (work c.args.queues.now.setup c.args.self.now
    (g.S.EntryStore.content c.args.store.now) []) c.args.engine) c.args.queues.now.setup.caps.queues
    c.in_default.ensures.none in
    rw none refl

pub returns-in_default-choose-clause-free : goal.returns-in_default-choose-clause-free
returns-in_default-choose-clause-free g c =
    let none = none-below (qualifies (work c.args.queues.now.setup c.args.self.now
    (g.S.EntryStore.content c.args.store.now) []) c.args.engine) c.args.queues.now.setup.caps.queues
    c.in_default-choose.ensures in
    rw none refl
