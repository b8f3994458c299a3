use Rattle.dsa_device.proofs.device.Device.start_reason.Goals as goal
use Rattle.std.proofs.Common.{◌∙◌, ap}
use Rattle.std.specs.Option.{option_map}
use Rattle.dsa_engines.{specs.{Batch.{start_answer}, Engines.{work}}, proofs.StartReasons.{started-told}}

pub start_reason-requires : goal.start_reason-requires
start_reason-requires g c = record { in_step = c.self.invariant.whole.in_step }

pub returns-clause-reason : goal.returns-clause-reason
returns-clause-reason g c = rw (← c.self.view_is) c.start_reason.ensures

pub returns-clause-answer : goal.returns-clause-answer
returns-clause-answer g c = rw (← c.self.view_is) (ap (option_map start_answer) c.start_reason.ensures
    ∙ started-told (work c.self.inside.queues.setup c.self.inside.engines
    (g.S.EntryStore.content c.self.inside.store) c.self.inside.book.fates) c.args.engine)
