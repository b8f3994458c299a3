use Rattle.dsa_book.specs.declared.event.Event.TheVariants as event
use Rattle.dsa_book.specs.declared.answer.Reply.TheVariants as reply
use Rattle.dsa_device.proofs.device.Device.finish.Goals as goal
use Rattle.std.proofs.Common.{◌∙◌, refl, sym}
use Rattle.dsa_device.proofs.Awaiting.{awaiting-end, end-counted, names-after}
use Rattle.dsa_device.proofs.Known.{cells_of, row_fits, in_place, queues_rise}
use Rattle.dsa_device.proofs.{Steps.{answered}, Whole.{whole_after, rows_after}}

pub finish-answer-requires-clause-in_step : goal.finish-answer-requires-clause-in_step
finish-answer-requires-clause-in_step g c = c.self.invariant.whole.in_step

pub finish-answer-requires-clause-counted : goal.finish-answer-requires-clause-counted
finish-answer-requires-clause-counted g c = c.self.invariant.counted

pub finish-answer-requires-clause-placed : goal.finish-answer-requires-clause-placed
finish-answer-requires-clause-placed g c = in_place _ c.self.invariant.whole.past

pub finish-answer-requires-clause-order : goal.finish-answer-requires-clause-order
finish-answer-requires-clause-order g c = queues_rise _ c.self.invariant.whole.past

pub finish-answer-requires-clause-room : goal.finish-answer-requires-clause-room
finish-answer-requires-clause-room g c =
    row_fits _ _ c.self.invariant.whole.past c.self.invariant.rows_fit (sym c.is_full.ensures.full ∙ c.if-is_full.false)

pub tell_end-requires : goal.tell_end-requires
tell_end-requires g c =
    rw (c.watched-entry.ensures, ← c.self.view_is)
    (end-counted _ _ _ c.args.engine c.args.ticket c.args.outcome _
    (cells_of _ c.self.invariant.whole.past) c.finish-answer.ensures.step _ _ c.self.invariant.awaiting)

pub returns : goal.returns
returns g c =
    answered _ _ _ (event.Finish c.args.engine c.args.ticket c.args.outcome) (reply.Finish c.finish-answer.result)
    c.self.view_is
    (sym c.is_full.ensures.full ∙ c.if-is_full.false) refl (rw
    (c.finish-answer.ensures.step, c.record.ensures, c.finish-answer.ensures.book, c.tell_end.ensures))
    (rw (c.record.ensures, c.finish-answer.ensures.book, c.tell_end.ensures))

pub invariant_of-self : goal.invariant_of-self
invariant_of-self g c = record {
  whole = whole_after _ _ _ _ _ _ _
      (event.Finish c.args.engine c.args.ticket c.args.outcome) (reply.Finish c.finish-answer.result)
      c.self.invariant.whole c.self.view_is (returns g c) c.finish-answer.ensures.in_step;
  rows_fit = rows_after _ _ _ _ _ (event.Finish c.args.engine c.args.ticket c.args.outcome)
      (reply.Finish c.finish-answer.result)
      c.self.invariant.whole.past c.self.invariant.rows_fit c.self.view_is (returns g c)
      (rw (c.record.ensures, c.finish-answer.ensures.book) refl);
  counted = c.finish-answer.ensures.counted;
  awaiting = rw (c.tell_end.ensures, c.watched-entry.ensures, ← c.self.view_is)
      (awaiting-end _ _ _ c.args.engine c.args.ticket c.args.outcome _
      (cells_of _ c.self.invariant.whole.past) c.finish-answer.ensures.step _ _ _
      (names-after _ _ _ (event.Finish c.args.engine c.args.ticket c.args.outcome) (reply.Finish c.finish-answer.result)
      c.self.view_is (returns g c)) c.self.invariant.awaiting);
}
