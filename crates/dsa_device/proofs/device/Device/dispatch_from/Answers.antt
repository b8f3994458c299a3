use Rattle.dsa_book.specs.declared.event.Event.TheVariants as event
use Rattle.dsa_book.specs.declared.answer.DispatchAnswer.TheVariants.{Taken}
use Rattle.dsa_book.specs.declared.answer.Reply.TheVariants as reply
use Rattle.dsa_device.proofs.device.Device.dispatch_from.Goals as goal
use Rattle.std.proofs.Common.{◌∙◌, refl, sym}
use Rattle.dsa_device.proofs.{Awaiting.{dispatch-running}, Steps.{answered}}

pub returns-in_err-ticket-clause-unqualified : goal.returns-in_err-ticket-clause-unqualified
returns-in_err-ticket-clause-unqualified g c =
    rw (c.from_residual.ensures, ← c.self.view_is) (sym c.in_err-ticket.ensures.qualifies)

pub returns-clause-some : goal.returns-clause-some
returns-clause-some g c =
    answered _ _ _ (event.Dispatch c.args.engine) (reply.Dispatch (Taken c.in_ok-ticket.ticket c.args.queue))
    c.self.view_is (sym c.is_full.ensures.full ∙ c.if-is_full.false) (sym c.in_ok-ticket.ensures.qualifies)
    (rw (c.in_ok-ticket.ensures.step c.self.inside.book.fates, c.record.ensures))
    (rw c.record.ensures)

pub invariant_of-self-2 : goal.invariant_of-self-2
invariant_of-self-2 g c =
    dispatch-running _ _ _ _ _ _ _ _ _ _ _ c.args.engine (Taken c.in_ok-ticket.ticket c.args.queue) c.self.invariant
    c.self.view_is (returns-clause-some g c) (rw c.record.ensures refl) (sym c.in_ok-ticket.ensures.qualifies)
    (rw (c.in_ok-ticket.ensures.step c.self.inside.book.fates, c.record.ensures))
    c.in_ok-ticket.ensures.in_step c.in_ok-ticket.ensures.counted
