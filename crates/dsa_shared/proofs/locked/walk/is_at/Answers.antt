use Rattle.dsa_shared.proofs.locked.walk.is_at.Goals as goal
use Rattle.std.proofs.Common.{Some, ap, ◌∙◌}
use Rattle.std.proofs.lemmas.{Bool.{OnTrue_from}, Option.{slice_get-get_or, get_or_from_slice_get}}
use Rattle.dsa_shared.proofs.Compares.{past_other}

pub returns-then-place-receipts-clause-same : goal.returns-then-place-receipts-clause-same
returns-then-place-receipts-clause-same c =
    (λ e. cc, λ e. absurd (past_other _ _ _ c.if-place-receipts.true e))

pub returns-clause-within : goal.returns-clause-within
returns-clause-within c = OnTrue_from _ _ (λ e. c.if-place-receipts.false)

pub returns-clause-same : goal.returns-clause-same
returns-clause-same c = (
  λ t. slice_get-get_or _ _ _ c.if-place-receipts.false ∙ ap Some (c.is_same.ensures.0 t),
  λ e. c.is_same.ensures.1 (get_or_from_slice_get c.args.receipts.now c.args.place c.args.step.now _ e),
)
