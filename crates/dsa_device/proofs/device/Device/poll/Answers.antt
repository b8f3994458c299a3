use Rattle.dsa_book.specs.declared.event.Event.TheVariants as event
use Rattle.dsa_book.specs.declared.answer.Reply.TheVariants as reply
use Rattle.dsa_device.proofs.device.Device.poll.Goals as goal
use Rattle.std.proofs.Common.{◌∙◌, refl, sym}
use Rattle.dsa_device.proofs.{Steps.{answered}, Whole.{whole_after, rows_after}}

pub returns : goal.returns
returns g c =
    answered _ _ _ event.Poll (reply.Poll c.poll-answer.result) c.self.view_is
    (sym c.is_full.ensures.full ∙ c.if-is_full.false) refl (rw (
      c.poll-answer.ensures.polled c.self.inside.engines _ c.self.inside.book.fates c.self.invariant.counted
          c.self.invariant.awaiting,
      c.record.ensures,
    ))
    (rw c.record.ensures)

pub invariant_of-self : goal.invariant_of-self
invariant_of-self g c = record {
  whole = whole_after _ _ _ _ _ _ _
      event.Poll (reply.Poll c.poll-answer.result)
      c.self.invariant.whole c.self.view_is (returns g c)
      (c.poll-answer.ensures.in_step c.self.inside.engines _ _ c.self.invariant.counted c.self.invariant.awaiting
      c.self.invariant.whole.in_step);
  rows_fit = rows_after _ _ _ _ _ event.Poll (reply.Poll c.poll-answer.result)
      c.self.invariant.whole.past c.self.invariant.rows_fit c.self.view_is (returns g c) (rw c.record.ensures refl);
  counted = c.poll-answer.ensures.counted _ c.self.invariant.counted;
  awaiting = c.poll-answer.ensures.awaiting _ c.self.invariant.awaiting;
}
