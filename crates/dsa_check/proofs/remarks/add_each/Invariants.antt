use Rattle.dsa_check.proofs.remarks.add_each.Given as goal
use Rattle.std.proofs.Common.{take}
use Rattle.dsa_check.specs.{Findings.{AppendsAll}, Remarks.{said_of_reasons, IsRemarkPlaced, Says}}

abbrev pub invariant-loop-i : goal.invariant-loop-i
invariant-loop-i l = record {
  all : Says l.initial.remarks.items l.remarks.items
      (said_of_reasons l.is_warning l.finding (take l.i l.reasons));
  placed : AppendsAll (IsRemarkPlaced l.bytes) l.initial.remarks.items l.remarks.items;
}
