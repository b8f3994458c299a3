use Rattle.dsa_admin.proofs.admin.Admin.why_issue.Goals as goal
use Rattle.std.proofs.Common.{refl, sym, ap, ◌∙◌, None, Some}
use Rattle.dsa_admin.{specs.Admin.{Watch}, proofs.Refusing.{idle_reason}}

pub returns-in-Some-phase_reason-clause-reason : goal.returns-in-Some-phase_reason-clause-reason
returns-in-Some-phase_reason-clause-reason c = λ s active setup counted awaiting.
    sym (idle_reason s c.args.command.now (Some c.in-Some-phase_reason.reason) _
    (active ∙ ap (λ (w : Watch). w.active) (sym c.self.view_is) ∙ c.in_default.is)
    (rw (setup, ← c.scope-scope.ensures) (sym c.queue_reason.ensures ∙ c.in_default-queue_reason.is))
    (rw (setup, ← c.scope-scope.ensures, ← c.deed-deed.ensures)
    (sym c.phase_reason.ensures ∙ c.in-Some-phase_reason.is)) refl)

pub returns-in_err-reason-clause-reason : goal.returns-in_err-reason-clause-reason
returns-in_err-reason-clause-reason c = λ s active setup counted awaiting.
    c.from_residual.ensures ∙ sym (idle_reason s c.args.command.now None None
    (active ∙ ap (λ (w : Watch). w.active) (sym c.self.view_is) ∙ c.in_default.is)
    (rw (setup, ← c.scope-scope.ensures) (sym c.queue_reason.ensures ∙ c.in_default-queue_reason.is))
    (rw (setup, ← c.scope-scope.ensures, ← c.deed-deed.ensures)
    (sym c.phase_reason.ensures ∙ c.in_default-phase_reason.is))
    (rw (setup, ← c.scope-scope.ensures, ← c.deed-deed.ensures)
    (sym c.found_by_check.ensures ∙ c.in_err-reason.was)))
