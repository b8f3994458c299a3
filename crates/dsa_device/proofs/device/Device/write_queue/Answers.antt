use Rattle.dsa_book.specs.declared.event.Event.TheVariants as event
use Rattle.dsa_book.specs.declared.answer.Reply.TheVariants as reply
use Rattle.dsa_device.proofs.device.Device.write_queue.Goals as goal
use Rattle.std.proofs.Common.{◌∙◌, refl, sym}
use Rattle.dsa_device.proofs.Awaiting.{set-up-running}
use Rattle.dsa_device.proofs.{Known.{entries_of}, InStep.{write_queue-keeps}}
use Rattle.dsa_device.proofs.Steps.{answered}

pub returns : goal.returns
returns g c =
    answered _ _ _ (event.WriteQueue c.args.queue c.args.config) (reply.Write c.write_queue-answer.result) c.self.view_is
    (sym c.is_full.ensures.full ∙ c.if-is_full.false) refl (rw (c.write_queue-answer.ensures.answer, c.record.ensures))
    (rw c.record.ensures)

-- the queue is Off, so no entry names it
pub invariant_of-self : goal.invariant_of-self
invariant_of-self g c =
    set-up-running _ _ _ _ _ _ _ _ _ _ _ (event.WriteQueue c.args.queue c.args.config)
    (reply.Write c.write_queue-answer.result)
    c.self.invariant c.self.view_is (returns g c) refl refl (rw c.record.ensures refl)
    (λ on. write_queue-keeps _ _ c.args.queue c.args.config _ _
    (entries_of _ c.self.invariant.whole.past) c.write_queue-answer.ensures.answer)
    c.write_queue-answer.ensures.held refl refl refl
