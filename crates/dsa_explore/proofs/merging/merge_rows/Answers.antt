use Rattle.dsa_explore.proofs.merging.merge_rows.Goals as goal
use Rattle.dsa_explore.proofs.Merged.{merged-more}

pub loop-row-preserved : goal.loop-row-preserved
loop-row-preserved c =
    merged-more c.args.more.now c.loop-row.row-index _ c.args.rows.now.items c.loop-row.rows.items
    c.merge_row.new.rows.items c.loop-row-test.true c.loop-row.invariant c.in_ok-merge_row.ensures
