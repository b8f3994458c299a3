use Rattle.dsa_book.specs.declared.event.Event.TheVariants as event
use Rattle.dsa_book.specs.declared.answer.Reply.TheVariants as reply
use Rattle.dsa_device.proofs.device.Device.start.Goals as goal
use Rattle.std.proofs.Common.{◌∙◌, refl, sym}
use Rattle.dsa_admin.specs.Admin.{is_watched}
use Rattle.dsa_laws.proofs.Awaits.{start-counts}
use Rattle.dsa_device.proofs.Awaiting.{awaiting-kept, names-after}
use Rattle.dsa_device.proofs.Known.{lawful, shape_of, members_wait, member_rows_fit}
use Rattle.dsa_device.proofs.{Steps.{answered}, Whole.{whole_after, rows_after}}

pub start-answer-requires-clause-in_step : goal.start-answer-requires-clause-in_step
start-answer-requires-clause-in_step g c = c.self.invariant.whole.in_step

pub start-answer-requires-clause-counted : goal.start-answer-requires-clause-counted
start-answer-requires-clause-counted g c = c.self.invariant.counted

pub start-answer-requires-clause-order : goal.start-answer-requires-clause-order
start-answer-requires-clause-order g c = members_wait _ c.args.engine c.self.invariant.whole.past

pub start-answer-requires-clause-room : goal.start-answer-requires-clause-room
start-answer-requires-clause-room g c =
    member_rows_fit _ _ c.args.engine c.self.invariant.whole.past c.self.invariant.rows_fit

pub returns : goal.returns
returns g c =
    answered _ _ _ (event.Start c.args.engine) (reply.Start c.start-answer.result) c.self.view_is
    (sym c.is_full.ensures.full ∙ c.if-is_full.false) refl (rw
    (c.start-answer.ensures.step, c.record.ensures, c.start-answer.ensures.book))
    (rw (c.record.ensures, c.start-answer.ensures.book))

pub invariant_of-self : goal.invariant_of-self
invariant_of-self g c =
    let p = c.self.invariant.whole.past in
    record {
      whole = whole_after _ _ _ _ _ _ _
          (event.Start c.args.engine) (reply.Start c.start-answer.result)
          c.self.invariant.whole c.self.view_is (returns g c) c.start-answer.ensures.in_step;
      rows_fit = rows_after _ _ _ _ _ (event.Start c.args.engine) (reply.Start c.start-answer.result)
          c.self.invariant.whole.past c.self.invariant.rows_fit c.self.view_is (returns g c)
          (rw (c.record.ensures, c.start-answer.ensures.book) refl);
      counted = c.start-answer.ensures.counted;
      awaiting = awaiting-kept _ _ _ _ _
          (names-after _ _ _ (event.Start c.args.engine) (reply.Start c.start-answer.result)
          c.self.view_is (returns g c))
          (λ active earlier past. start-counts (is_watched active) active.mark earlier _ _ c.args.engine _ _
          (shape_of _ p) (lawful _ p).entries.placed c.start-answer.ensures.step)
          c.self.invariant.awaiting;
    }
