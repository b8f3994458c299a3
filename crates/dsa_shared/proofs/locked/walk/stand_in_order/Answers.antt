use Rattle.dsa_shared.proofs.locked.walk.stand_in_order.Goals as goal
use Rattle.std.proofs.Common.{below_more, sym, ap, ◌∙◌, arith}
use Rattle.std.proofs.lemmas.{List.{get_or_read}, Grind.{common_steps}}

pub loop-number-preserved : goal.loop-number-preserved
loop-number-preserved g c =
    below_more _ _ c.loop-number.invariant
    (λ d. ap g.T.Numbered.number
    (sym (get_or_read c.args.seats.now _ _ c.loop-number-test.true c.index-seats-number.is d))
    ∙ sym c.seat_number.ensures ∙ grind (arith, common_steps))

pub returns-clause-order : goal.returns-clause-order
returns-clause-order g c k lt = c.loop-number.invariant k (omega (arith, lt, c.loop-number-test.false))
