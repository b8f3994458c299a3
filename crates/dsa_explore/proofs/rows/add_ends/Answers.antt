use Rattle.dsa_explore.proofs.rows.add_ends.Goals as goal
use Rattle.dsa_explore.specs.Rows.{labels_of}
use Rattle.dsa_explore.specs.Findings.{ending_told}
use Rattle.dsa_explore.proofs.Added.{added-row, added-none}

pub loop-end-init : goal.loop-end-init
loop-end-init c = added-none c.args.steps c.args.rows.now.items

pub loop-end-preserved : goal.loop-end-preserved
loop-end-preserved c =
    added-row c.args.steps ending_told (labels_of c.args.labels.now) c.args.ends.now c.loop-end.end-index _
    c.ending_told.result c.args.rows.now.items c.loop-end.rows.items c.add_finding.new.rows.items
    c.loop-end-test.true c.loop-end.invariant c.ending_told.ensures c.in_ok-add_finding.ensures
