use Rattle.dsa_device.proofs.device.Device.finish_reason.Goals as goal
use Rattle.std.proofs.Common.{◌∙◌, ap}
use Rattle.std.specs.Option.{option_map}
use Rattle.dsa_engines.{specs.{Finish.{finish_answer}, Engines.{work}}, proofs.EndReasons.{ended-told}}
use Rattle.dsa_device.proofs.Known.{in_place, queues_rise}

pub finish_reason-requires-clause-store : goal.finish_reason-requires-clause-store
finish_reason-requires-clause-store g c = c.self.invariant.whole.in_step.store

pub finish_reason-requires-clause-placed : goal.finish_reason-requires-clause-placed
finish_reason-requires-clause-placed g c = in_place _ c.self.invariant.whole.past

pub finish_reason-requires-clause-order : goal.finish_reason-requires-clause-order
finish_reason-requires-clause-order g c = queues_rise _ c.self.invariant.whole.past

pub returns-clause-reason : goal.returns-clause-reason
returns-clause-reason g c = rw (← c.self.view_is) c.finish_reason.ensures

pub returns-clause-answer : goal.returns-clause-answer
returns-clause-answer g c outcome = rw (← c.self.view_is) (ap (option_map finish_answer) c.finish_reason.ensures
    ∙ ended-told (work c.self.inside.queues.setup c.self.inside.engines
    (g.S.EntryStore.content c.self.inside.store) c.self.inside.book.fates) c.args.engine c.args.ticket outcome
    ((g.met.S.EntryStore.sound c.self.inside.store).once c.args.ticket.cell))
