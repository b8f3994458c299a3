use Rattle.dsa_check.proofs.remarks.add_each.Goals as goal
use Rattle.dsa_check.specs.Remarks.{IsRemarkPlaced}
use Rattle.dsa_check.proofs.{Remarked.{reasons_more}, Told.{appends_both}}

pub loop-i-preserved : goal.loop-i-preserved
loop-i-preserved c = record {
  all =
      reasons_more c.args.is_warning c.args.finding.now c.args.reasons.now c.loop-i.i c.index-reasons-i.result _ _ _
      c.loop-i-test.true c.index-reasons-i.is c.loop-i.invariant.all c.in_ok-add_reason.ensures.all;
  placed =
      appends_both (IsRemarkPlaced c.args.bytes.now) _ _ _ c.loop-i.invariant.placed c.in_ok-add_reason.ensures.placed;
}
