use Rattle.dsa_chrome.proofs.page.Page.end_all.Goals as goal
use Rattle.dsa_chrome.proofs.Turns.{ended-more}

pub loop-row-preserved : goal.loop-row-preserved
loop-row-preserved c =
    ended-more c.args.number c.args.rows.now c.loop-row.row-index _ _ _ _ c.loop-row-test.true c.in_ok-end.ensures
    c.loop-row.invariant
