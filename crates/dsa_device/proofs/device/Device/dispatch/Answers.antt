use Rattle.dsa_book.specs.declared.event.Event.TheVariants as event
use Rattle.dsa_book.specs.declared.answer.Reply.TheVariants as reply
use Rattle.dsa_device.proofs.device.Device.dispatch.Goals as goal
use Rattle.std.proofs.Common.{◌∙◌, refl, sym}
use Rattle.dsa_device.proofs.{Awaiting.{dispatch-running}, Steps.{answered}}

pub dispatch-answer-requires : goal.dispatch-answer-requires
dispatch-answer-requires g c = record {
  in_step = c.self.invariant.whole.in_step;
  counted = c.self.invariant.counted;
}

pub returns : goal.returns
returns g c =
    answered _ _ _ (event.Dispatch c.args.engine) (reply.Dispatch c.dispatch-answer.result) c.self.view_is
    (sym c.is_full.ensures.full ∙ c.if-is_full.false) c.dispatch-answer.ensures.free
    (rw (c.dispatch-answer.ensures.step c.self.inside.book.fates, c.record.ensures))
    (rw c.record.ensures)

pub invariant_of-self : goal.invariant_of-self
invariant_of-self g c =
    dispatch-running _ _ _ _ _ _ _ _ _ _ _ c.args.engine c.dispatch-answer.result c.self.invariant c.self.view_is
    (returns g c) (rw c.record.ensures refl) c.dispatch-answer.ensures.free
    (rw (c.dispatch-answer.ensures.step c.self.inside.book.fates, c.record.ensures))
    c.dispatch-answer.ensures.in_step c.dispatch-answer.ensures.counted
