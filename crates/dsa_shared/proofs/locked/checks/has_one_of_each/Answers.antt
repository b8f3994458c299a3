use Rattle.dsa_shared.proofs.locked.checks.has_one_of_each.Goals as goal
use Rattle.std.proofs.Common.{below_more, sym, refl, ◌∙◌, arith}

pub loop-number-preserved : goal.loop-number-preserved
loop-number-preserved g c = below_more _ _ c.loop-number.invariant (sym c.holders.ensures ∙ c.if-holders-ne1.false)

pub returns-then-holders-ne1 : goal.returns-then-holders-ne1
returns-then-holders-ne1 g c =
    (λ e. cc, λ all. absurd (c.if-holders-ne1.true (c.holders.ensures ∙ all _ c.loop-number-test.true)))

pub returns : goal.returns
returns g c = (λ t k lt. c.loop-number.invariant k (omega arith), λ all. refl)
