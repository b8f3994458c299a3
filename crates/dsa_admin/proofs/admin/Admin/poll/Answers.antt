use Rattle.dsa_admin.proofs.admin.Admin.poll.Goals as goal
use Rattle.dsa_admin.proofs.admin.Admin.poll.Goals.{in-Some-take, in_default-take}
use Rattle.std.proofs.{Common.{[], refl, sym, ap, ◌∙◌}, lemmas.Bool.{not-true, true≢false}}
use Rattle.dsa_regs.specs.declared.Phase.TheVariants.{Off}
use Rattle.dsa_admin.{specs.Admin.{Watch, state}, proofs.{Commands.{in_step-stopped}, Refusing.{poll_end, poll_refused}}}

pub returns-in-Some-clause-polled : goal.returns-in-Some-clause-polled
returns-in-Some-clause-polled c = λ engines_state content fates counted awaiting.
    let s = state c.args.queues.now.setup engines_state content fates c.args.self.now.active in
    rw c.answer.ensures (poll_refused s c.in-Some.reason
    (sym (c.why_poll.ensures s refl counted awaiting) ∙ c.in-Some.is))

pub returns-clause-in_step : goal.returns-clause-in_step
returns-clause-in_step c = λ engines_state cells content counted awaiting k.
    elim c.match-take.branch [
      | in-Some-take w ↦
          let s = state c.args.queues.now.setup engines_state content [] c.args.self.now.active in
          let active = ap (λ (x : Watch). x.active) (sym c.self.view_is) ∙ sym c.take.ensures.value
          ∙ w.in-Some-take.is in
          rw (w.queues-is, w.stop.ensures) (in_step-stopped _ _ w.in-Some-take.active.mark Off
          c.args.queues.now.setup engines_state content (λ off. absurd (true≢false off))
          (λ off. not-true _ (poll_end s w.in-Some-take.active active
          (sym (c.why_poll.ensures s refl counted awaiting) ∙ c.in_default.is))) k)
      | in_default-take w ↦ rw w.queues-is k
    ]
