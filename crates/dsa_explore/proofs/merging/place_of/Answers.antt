use Rattle.dsa_explore.proofs.merging.place_of.Goals as goal
use Rattle.std.proofs.Common.{◌≡◌, ℕ, Some, IfSome, subst, ⊎_elim, arith}
use Rattle.std.specs.Prelude.{slice_get, Option}
use Rattle.std.proofs.lemmas.Bool.{cases_eq}
use Rattle.dsa_explore.specs.declared.found.Found.{Found}
use Rattle.dsa_explore.proofs.Growth.{get-below}

pub loop-i-init : goal.loop-i-init
loop-i-init c = λ k row below. absurd (omega (arith, below))

pub loop-i-preserved : goal.loop-i-preserved
loop-i-preserved c = λ k row below at is. ⊎_elim
    (λ (same : k ≡ c.loop-i.i).
    let here : slice_get c.args.rows.now c.loop-i.i ≡ Some row =
    subst (λ (n : ℕ). slice_get c.args.rows.now n ≡ Some row) same at in
    (subst (λ (o : Option Found). IfSome o (λ e. e.finding ≡ c.args.finding.now → ⊥)) here
    (c.is_row_at.ensures.other c.if-is_row_at.false)) is)
    (λ differs. c.loop-i.invariant k row (omega (arith, below, differs)) at is) (cases_eq k c.loop-i.i)

pub returns-clause-none : goal.returns-clause-none
returns-clause-none c = λ k row at is.
    c.loop-i.invariant k row (omega (arith, get-below c.args.rows.now k row at, c.loop-i-test.false)) at is
