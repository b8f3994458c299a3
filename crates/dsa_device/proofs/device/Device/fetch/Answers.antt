use Rattle.dsa_book.specs.declared.event.Event.TheVariants as event
use Rattle.dsa_book.specs.declared.answer.Reply.TheVariants as reply
use Rattle.dsa_device.proofs.device.Device.fetch.Goals as goal
use Rattle.std.proofs.Common.{◌∙◌, refl, sym}
use Rattle.dsa_book.specs.Choice.{choice_of, chosen_cell}
use Rattle.dsa_admin.specs.Admin.{is_watched}
use Rattle.dsa_laws.proofs.Awaits.{fetch-counts}
use Rattle.dsa_device.proofs.Awaiting.{awaiting-kept, names-after}
use Rattle.dsa_device.proofs.{Known.{fetching, names_fit}, Steps.{answered}, Whole.{whole_after, rows_after}}

pub fetch-answer-requires-clause-in_step : goal.fetch-answer-requires-clause-in_step
fetch-answer-requires-clause-in_step g c = c.self.invariant.whole.in_step

pub fetch-answer-requires-clause-counted : goal.fetch-answer-requires-clause-counted
fetch-answer-requires-clause-counted g c = c.self.invariant.counted

pub fetch-answer-requires-clause-room : goal.fetch-answer-requires-clause-room
fetch-answer-requires-clause-room g c = fetching _ _ _ c.args.engine c.self.invariant.whole

pub fetch-answer-requires-clause-names : goal.fetch-answer-requires-clause-names
fetch-answer-requires-clause-names g c = λ h.
    names_fit _ c.self.invariant.whole.past (sym c.is_full.ensures.full ∙ c.if-is_full.false)

pub returns : goal.returns
returns g c =
    answered _ _ _ (event.Fetch c.args.engine c.args.desc) (reply.Fetch c.fetch-answer.result) c.self.view_is
    (sym c.is_full.ensures.full ∙ c.if-is_full.false) c.fetch-answer.ensures.free
    (rw (c.fetch-answer.ensures.step c.self.inside.book.fates, c.record.ensures))
    (rw c.record.ensures)

pub invariant_of-self : goal.invariant_of-self
invariant_of-self g c = record {
  whole = whole_after _ _ _ _ _ _ _
      (event.Fetch c.args.engine c.args.desc) (reply.Fetch c.fetch-answer.result)
      c.self.invariant.whole c.self.view_is (returns g c) c.fetch-answer.ensures.in_step;
  rows_fit = rows_after _ _ _ _ _ (event.Fetch c.args.engine c.args.desc) (reply.Fetch c.fetch-answer.result)
      c.self.invariant.whole.past c.self.invariant.rows_fit c.self.view_is (returns g c) (rw c.record.ensures refl);
  counted = c.fetch-answer.ensures.counted;
  awaiting = awaiting-kept _ _ _ _ _
      (names-after _ _ _ (event.Fetch c.args.engine c.args.desc) (reply.Fetch c.fetch-answer.result)
      c.self.view_is (returns g c))
      (λ active earlier past. fetch-counts (is_watched active) active.mark earlier _ c.args.engine c.args.desc
      (chosen_cell (choice_of (reply.Fetch c.fetch-answer.result))) _ _ past
      (c.fetch-answer.ensures.step c.self.inside.book.fates))
      c.self.invariant.awaiting;
}
