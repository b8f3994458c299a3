use Rattle.dsa_shared.proofs.compare.compare_receipts.Goals as goal
use Rattle.std.proofs.Common.{sym, arith}
use Rattle.dsa_shared.proofs.Compares.{differs_here, differs_end, never_same, past_other, other_within, fails}
use Rattle.std.proofs.lemmas.Grind.{common_steps}

pub returns-then-at-receipts-clause-some : goal.returns-then-at-receipts-clause-some
returns-then-at-receipts-clause-some c =
    differs_here _ _ _ _ _ _ c.loop-step.invariant.0 c.loop-step.invariant.1 c.loop-step-test.true
    (sym c.if-is_of.ensures) (past_other _ _ _ c.if-at-receipts.true)

pub returns-then-at-receipts-clause-none : goal.returns-then-at-receipts-clause-none
returns-then-at-receipts-clause-none c =
    (λ e. cc, λ e. absurd (never_same _ _ _ (returns-then-at-receipts-clause-some c) e))

pub returns-then-not-is_same-clause-some : goal.returns-then-not-is_same-clause-some
returns-then-not-is_same-clause-some c =
    differs_here _ _ _ _ _ _ c.loop-step.invariant.0 c.loop-step.invariant.1 c.loop-step-test.true
    (sym c.if-is_of.ensures)
    (other_within _ _ _ _ c.if-at-receipts.false (fails _ c.if-not-is_same.true c.is_same.ensures.1))

pub returns-then-not-is_same-clause-none : goal.returns-then-not-is_same-clause-none
returns-then-not-is_same-clause-none c =
    (λ e. cc, λ e. absurd (never_same _ _ _ (returns-then-not-is_same-clause-some c) e))

pub returns-then-at-receipts-2-clause-some : goal.returns-then-at-receipts-2-clause-some
returns-then-at-receipts-2-clause-some c =
    differs_end _ _ _ c.loop-step.step-index _ c.if-at-receipts-2.true c.loop-step.invariant.1 c.loop-step-test.false

pub loop-step-preserved : goal.loop-step-preserved
loop-step-preserved = grind (arith, common_steps)

pub returns-then-at-receipts-2-clause-none : goal.returns-then-at-receipts-2-clause-none
returns-then-at-receipts-2-clause-none = grind (arith, common_steps)

pub returns-else-at-receipts-2-clause-none : goal.returns-else-at-receipts-2-clause-none
returns-else-at-receipts-2-clause-none = grind (arith, common_steps)
