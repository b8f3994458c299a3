use Rattle.dsa_device.proofs.device.Device.fetch_reason.Goals as goal
use Rattle.std.proofs.Common.{◌∙◌, ap}
use Rattle.std.specs.Option.{option_map}
use Rattle.dsa_engines.{specs.{Batch.{fetch_answer}, Engines.{work}}, proofs.Batches.{fetch-told}}

pub fetch_reason-requires : goal.fetch_reason-requires
fetch_reason-requires g c = c.self.invariant.whole.in_step

pub returns-clause-reason : goal.returns-clause-reason
returns-clause-reason g c = rw (← c.self.view_is) c.fetch_reason.ensures

pub returns-clause-answer : goal.returns-clause-answer
returns-clause-answer g c desc cell = rw (← c.self.view_is)
    (ap (option_map fetch_answer) c.fetch_reason.ensures ∙ fetch-told (work c.self.inside.queues.setup c.self.inside.engines
    (g.S.EntryStore.content c.self.inside.store) c.self.inside.book.fates) c.args.engine desc cell)
