use Rattle.dsa_book.specs.declared.event.Event.TheVariants as event
use Rattle.dsa_book.specs.declared.answer.Reply.TheVariants as reply
use Rattle.dsa_device.proofs.device.Device.submit_parsed.Goals as goal
use Rattle.std.proofs.Common.{◌∙◌, refl, sym, ap}
use Rattle.dsa_regs.specs.Caps.{cell_count}
use Rattle.dsa_book.specs.Choice.{choice_of, chosen_cell}
use Rattle.dsa_queues.specs.Queues.{intake}
use Rattle.dsa_admin.specs.Admin.{is_watched}
use Rattle.dsa_laws.proofs.Awaits.{submit-counts}
use Rattle.dsa_device.proofs.Awaiting.{awaiting-kept, names-after}
use Rattle.dsa_device.proofs.{Known.{accepting, names_fit}, InStep.{submit-keeps}, Steps.{answered}}
use Rattle.dsa_device.proofs.Whole.{whole_after_queues, rows_after}

pub submit-answer-requires-clause-store : goal.submit-answer-requires-clause-store
submit-answer-requires-clause-store g c = c.self.invariant.whole.in_step.store

pub submit-answer-requires-clause-room : goal.submit-answer-requires-clause-room
submit-answer-requires-clause-room g c = accepting _ _ _ c.args.queue c.args.portal c.args.kind c.self.invariant.whole

pub submit-answer-requires-clause-counted : goal.submit-answer-requires-clause-counted
submit-answer-requires-clause-counted g c = c.self.invariant.counted

pub submit-answer-requires-clause-names : goal.submit-answer-requires-clause-names
submit-answer-requires-clause-names g c = λ h.
    names_fit _ c.self.invariant.whole.past (sym c.is_full.ensures.full ∙ c.if-is_full.false)

pub returns : goal.returns
returns g c =
    answered _ _ _ (event.Submit c.args.client c.args.queue c.args.portal c.args.kind c.args.desc)
    (reply.Submit c.submit-answer.result) c.self.view_is
    (sym c.is_full.ensures.full ∙ c.if-is_full.false) c.submit-answer.ensures.free
    (rw (c.submit-answer.ensures.answer, c.record.ensures))
    (rw c.record.ensures)

pub invariant_of-self : goal.invariant_of-self
invariant_of-self g c =
    let i = c.self.inside in
    let old = c.self.invariant in
    let content = g.S.EntryStore.content i.store in
    let cell = chosen_cell (choice_of (reply.Submit c.submit-answer.result)) in
    let keeps = submit-keeps (intake i.queues.setup content) c.args.queue c.args.portal c.args.kind c.args.desc
    cell _ _ c.submit-answer.ensures.answer in
    record {
      whole = whole_after_queues _ _ _ _ _ _
          (event.Submit c.args.client c.args.queue c.args.portal c.args.kind c.args.desc)
          (reply.Submit c.submit-answer.result)
          old.whole c.self.view_is (returns g c) refl
          (c.submit-answer.ensures.store.cells ∙ ap cell_count keeps.caps ∙ sym old.whole.in_step.store.cells)
          (λ on. keeps);
      rows_fit = rows_after _ _ _ _ _
          (event.Submit c.args.client c.args.queue c.args.portal c.args.kind c.args.desc)
          (reply.Submit c.submit-answer.result)
          old.whole.past old.rows_fit c.self.view_is (returns g c) (rw c.record.ensures refl);
      counted = c.submit-answer.ensures.counted;
      awaiting = awaiting-kept _ _ _ _ _
          (names-after _ _ _
          (event.Submit c.args.client c.args.queue c.args.portal c.args.kind c.args.desc)
          (reply.Submit c.submit-answer.result)
          c.self.view_is (returns g c))
          (λ active earlier past. submit-counts (is_watched active) active.mark earlier _ c.args.queue c.args.portal
          c.args.kind c.args.desc cell _ _ past c.submit-answer.ensures.answer)
          old.awaiting;
    }
