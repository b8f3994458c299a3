use Rattle.dsa_shared.proofs.locked.walk.have_ended.Goals as goal
use Rattle.std.proofs.Common.{below_more, length, ap, ◌∙◌, arith}
use Rattle.std.proofs.lemmas.{List.{get_or_read}, Grind.{common_steps}}

pub loop-number-preserved : goal.loop-number-preserved
loop-number-preserved g c =
    below_more _ _ c.loop-number.invariant
    (λ d. grind (arith, common_steps) ∙ ap length c.seat_receipts.ensures
    ∙ ap (λ s. length (g.T.Numbered.receipts s))
    (get_or_read c.args.seats.now _ _ c.loop-number-test.true c.index-seats-number.is d))

pub returns : goal.returns
returns g c k lt = c.loop-number.invariant k (omega (arith, lt, c.loop-number-test.false))
