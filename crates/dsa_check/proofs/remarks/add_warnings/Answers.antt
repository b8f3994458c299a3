use Rattle.dsa_check.proofs.remarks.add_warnings.Goals as goal
use Rattle.dsa_check.specs.Remarks.{said_of_warning, IsRemarkPlaced}
use Rattle.dsa_check.proofs.{Remarked.{findings_more}, Told.{appends_both}}

pub loop-warning-preserved : goal.loop-warning-preserved
loop-warning-preserved c = record {
  walked = c.in_ok-add_reasons.ensures.walked;
  all =
      findings_more said_of_warning c.args.warnings.now c.loop-warning.warning-index c.warning-item.result _ _ _
      c.loop-warning-test.true c.warning-item.is c.loop-warning.invariant.all c.in_ok-add_reasons.ensures.all;
  placed =
      appends_both (IsRemarkPlaced c.args.bytes.now) _ _ _ c.loop-warning.invariant.placed c.in_ok-add_reasons.ensures.placed;
}
