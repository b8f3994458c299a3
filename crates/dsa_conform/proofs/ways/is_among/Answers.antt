use Rattle.dsa_conform.proofs.ways.is_among.Goals as goal
use Rattle.std.proofs.Common.{arith, subst}
use Rattle.std.proofs.lemmas.List.{take_all}
use Rattle.dsa_conform.specs.declared.way.Way.{Way}
use Rattle.dsa_conform.specs.Ways.{AreDevicesAlike, IsAmong}
use Rattle.dsa_conform.proofs.{Placing.{in_at}, Listed.{one_more}}

pub loop-other-preserved : goal.loop-other-preserved
loop-other-preserved c h =
    one_more (λ (y : Way). ¬ AreDevicesAlike c.args.way.now.device y.device) c.args.ways.now c.loop-other.other-index
    c.other-item.result c.loop-other-test.true (λ y i alike. c.loop-other.invariant (y, i, alike))
    (subst (λ (y : Way). ¬ AreDevicesAlike c.args.way.now.device y.device) c.other-item.is
    (c.is_alike.ensures.other c.if-is_alike.false))
    h.0 h.1 h.2

pub returns-clause-none : goal.returns-clause-none
returns-clause-none c is =
    subst (λ l. ¬ IsAmong c.args.way.now.device l)
    (take_all c.loop-other.other-index c.args.ways.now (omega (arith, c.loop-other-test.false))) c.loop-other.invariant

pub returns-then-is_alike-clause-among : goal.returns-then-is_alike-clause-among
returns-then-is_alike-clause-among c = λ same. (
  c.other-item.result,
  in_at _ c.loop-other.other-index c.other-item.result c.loop-other-test.true c.other-item.is,
  c.is_alike.ensures.alike c.if-is_alike.true,
)
