use Rattle.dsa_explore.proofs.ends.place_of.Goals as goal
use Rattle.std.proofs.Common.{◌≡◌, ℕ, Some, IfSome, subst, ⊎_elim, arith}
use Rattle.std.specs.Prelude.{slice_get, Option}
use Rattle.std.proofs.lemmas.Bool.{cases_eq}
use Rattle.dsa_explore.specs.declared.found.Ending.{Ending}
use Rattle.dsa_explore.specs.Ends.{AreLikeEndings}
use Rattle.dsa_explore.proofs.Growth.{get-below}

pub loop-i-init : goal.loop-i-init
loop-i-init c = λ k other below. absurd (omega (arith, below))

pub loop-i-preserved : goal.loop-i-preserved
loop-i-preserved c = λ k other below at alike. ⊎_elim
    (λ (same : k ≡ c.loop-i.i).
    let here : slice_get c.args.endings.now c.loop-i.i ≡ Some other =
    subst (λ (n : ℕ). slice_get c.args.endings.now n ≡ Some other) same at in
    (subst (λ (o : Option Ending). IfSome o (λ e. AreLikeEndings e c.args.ending.now → ⊥)) here
    (c.is_alike_at.ensures.other c.if-is_alike_at.false)) alike)
    (λ differs. c.loop-i.invariant k other (omega (arith, below, differs)) at alike) (cases_eq k c.loop-i.i)

pub returns-clause-none : goal.returns-clause-none
returns-clause-none c = λ k other at alike.
    c.loop-i.invariant k other (omega (arith, get-below c.args.endings.now k other at, c.loop-i-test.false)) at alike
