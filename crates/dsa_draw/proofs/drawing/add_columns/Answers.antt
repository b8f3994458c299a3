use Rattle.dsa_draw.proofs.drawing.add_columns.Goals as goal
use Rattle.dsa_draw.proofs.Turns.{columned, columned_at_end}

pub loop-moment-preserved : goal.loop-moment-preserved
loop-moment-preserved c =
    rw c.saturating_add-column.ensures
    (columned c.args.moments.now c.loop-moment.moment-index c.moment-item.result c.args.height c.loop-moment.column _ _ _
    _ c.loop-moment-test.true c.moment-item.is c.in_ok-add_fifth.ensures c.in_ok-add_column.ensures
    c.loop-moment.invariant)

pub returns : goal.returns
returns c =
    columned_at_end c.args.moments.now c.loop-moment.moment-index c.args.height c.loop-moment.column _ _
    c.loop-moment-test.false c.loop-moment.invariant
