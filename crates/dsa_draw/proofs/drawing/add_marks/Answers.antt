use Rattle.dsa_draw.proofs.drawing.add_marks.Goals as goal
use Rattle.dsa_draw.proofs.RowTexts.{marked, marked_at_end}

pub loop-moment-preserved : goal.loop-moment-preserved
loop-moment-preserved c =
    rw c.saturating_add-column.ensures
    (marked c.args.fates.now c.args.moments.now c.loop-moment.moment-index c.moment-item.result c.loop-moment.column
    c.loop-moment.ended _ _ _ c.loop-moment-test.true c.moment-item.is c.in_ok-add_marks_of_step.ensures
    c.loop-moment.invariant)

pub returns : goal.returns
returns c =
    marked_at_end c.args.fates.now c.args.moments.now c.loop-moment.moment-index c.loop-moment.column
    c.loop-moment.ended _ _ c.loop-moment-test.false c.loop-moment.invariant
