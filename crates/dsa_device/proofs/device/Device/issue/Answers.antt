use Rattle.dsa_book.specs.declared.event.Event.TheVariants as event
use Rattle.dsa_book.specs.declared.answer.Reply.TheVariants as reply
use Rattle.dsa_device.proofs.device.Device.issue.Goals as goal
use Rattle.std.proofs.Common.{◌∙◌, refl, sym}
use Rattle.dsa_device.proofs.{Known.{rows_fit}, Steps.{answered}, Whole.{whole_after, rows_after}}

pub issue-answer-requires-clause-in_step : goal.issue-answer-requires-clause-in_step
issue-answer-requires-clause-in_step g c = c.self.invariant.whole.in_step

pub issue-answer-requires-clause-counted : goal.issue-answer-requires-clause-counted
issue-answer-requires-clause-counted g c = c.self.invariant.counted

pub issue-answer-requires-clause-awaiting : goal.issue-answer-requires-clause-awaiting
issue-answer-requires-clause-awaiting g c = c.self.invariant.awaiting

pub issue-answer-requires-clause-room : goal.issue-answer-requires-clause-room
issue-answer-requires-clause-room g c = rows_fit _ _ c.self.invariant.whole.past c.self.invariant.rows_fit

pub returns : goal.returns
returns g c =
    answered _ _ _ (event.Issue c.args.command) (reply.Issue c.issue-answer.result) c.self.view_is
    (sym c.is_full.ensures.full ∙ c.if-is_full.false) refl (rw
    (c.issue-answer.ensures.issued, c.record.ensures, c.issue-answer.ensures.book))
    (rw (c.record.ensures, c.issue-answer.ensures.book))

pub invariant_of-self : goal.invariant_of-self
invariant_of-self g c = record {
  whole = whole_after _ _ _ _ _ _ _
      (event.Issue c.args.command) (reply.Issue c.issue-answer.result)
      c.self.invariant.whole c.self.view_is (returns g c) c.issue-answer.ensures.in_step;
  rows_fit = rows_after _ _ _ _ _ (event.Issue c.args.command) (reply.Issue c.issue-answer.result)
      c.self.invariant.whole.past c.self.invariant.rows_fit c.self.view_is (returns g c)
      (rw (c.record.ensures, c.issue-answer.ensures.book) refl);
  counted = c.issue-answer.ensures.counted;
  awaiting = c.issue-answer.ensures.awaiting;
}
