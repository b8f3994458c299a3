use Rattle.dsa_family.proofs.axes.all_said.Goals as goal
use Rattle.dsa_family.proofs.Counts.{said_next}

pub loop-item-preserved : goal.loop-item-preserved
loop-item-preserved c =
    said_next c.args.items.now c.loop-item.item-index c.item-item.result c.loop-item.axes.items _ c.in-Some.axis
    c.loop-item-test.true c.item-item.is c.in-Some.ensures.said c.in_ok-push.ensures.items c.in-Some.ensures.some
    c.loop-item.invariant
