use Rattle.dsa_book.specs.declared.event.Event.TheVariants as event
use Rattle.dsa_book.specs.declared.answer.Reply.TheVariants as reply
use Rattle.dsa_device.proofs.device.Device.clear_error.Goals as goal
use Rattle.std.proofs.Common.{◌∙◌, refl, sym}
use Rattle.dsa_device.proofs.Awaiting.{set-up-running}
use Rattle.dsa_device.proofs.{InStep.{clear-keeps}, Steps.{answered}}

pub returns : goal.returns
returns g c =
    answered _ _ _ event.ClearError (reply.Clear c.clear_error-answer.result) c.self.view_is
    (sym c.is_full.ensures.full ∙ c.if-is_full.false) refl (rw (c.clear_error-answer.ensures.answer, c.record.ensures))
    (rw c.record.ensures)

pub invariant_of-self : goal.invariant_of-self
invariant_of-self g c =
    set-up-running _ _ _ _ _ _ _ _ _ _ _ event.ClearError (reply.Clear c.clear_error-answer.result)
    c.self.invariant c.self.view_is (returns g c) refl refl (rw c.record.ensures refl)
    (λ on. clear-keeps _ _ _ _ c.clear_error-answer.ensures.answer)
    c.clear_error-answer.ensures.held refl refl refl
