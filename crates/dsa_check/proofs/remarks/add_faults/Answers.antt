use Rattle.dsa_check.proofs.remarks.add_faults.Goals as goal
use Rattle.dsa_check.specs.Remarks.{said_of_fault, IsRemarkPlaced}
use Rattle.dsa_check.proofs.{Remarked.{findings_more}, Told.{appends_both}}

pub loop-fault-preserved : goal.loop-fault-preserved
loop-fault-preserved c = record {
  walked = c.in_ok-add_fault.ensures.walked;
  all =
      findings_more said_of_fault c.args.faults.now c.loop-fault.fault-index c.fault-item.result _ _ _
      c.loop-fault-test.true c.fault-item.is c.loop-fault.invariant.all c.in_ok-add_fault.ensures.all;
  placed =
      appends_both (IsRemarkPlaced c.args.bytes.now) _ _ _ c.loop-fault.invariant.placed c.in_ok-add_fault.ensures.placed;
}
