use Rattle.dsa_draw.proofs.engines.add_marks.Goals as goal
use Rattle.dsa_draw.proofs.RowTexts.{engine_marked, engine_marked_at_end}

pub loop-moment-preserved : goal.loop-moment-preserved
loop-moment-preserved c =
    rw c.saturating_add-step.ensures
    (engine_marked c.args.engine c.args.top c.args.moments.now c.loop-moment.moment-index c.moment-item.result
    c.loop-moment.step _ _ _ c.loop-moment-test.true c.moment-item.is c.in_ok-add_engine_mark.ensures
    c.loop-moment.invariant)

pub returns : goal.returns
returns c =
    engine_marked_at_end c.args.engine c.args.top c.args.moments.now c.loop-moment.moment-index c.loop-moment.step _ _
    c.loop-moment-test.false c.loop-moment.invariant
