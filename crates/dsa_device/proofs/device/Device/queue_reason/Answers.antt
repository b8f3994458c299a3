use Rattle.dsa_device.proofs.device.Device.queue_reason.Goals as goal
use Rattle.std.proofs.Common.{◌∙◌, [], Option, ap}
use Rattle.std.specs.Prelude.{is_some}
use Rattle.dsa_engines.specs.{declared.reasons.QueueReason.{QueueReason}, Engines.{work}}
use Rattle.dsa_engines.proofs.TakeReasons.{reason-some}

pub queue_reason-requires : goal.queue_reason-requires
queue_reason-requires g c = record { in_step = c.self.invariant.whole.in_step }

pub returns-clause-reason : goal.returns-clause-reason
returns-clause-reason g c = rw (← c.self.view_is) c.queue_reason.ensures

pub returns-clause-some : goal.returns-clause-some
returns-clause-some g c = rw (← c.self.view_is) (
    ap (λ (o : Option QueueReason). is_some o) c.queue_reason.ensures
    ∙ reason-some (work c.self.inside.queues.setup c.self.inside.engines
    (g.S.EntryStore.content c.self.inside.store) []) c.args.engine c.args.queue)
