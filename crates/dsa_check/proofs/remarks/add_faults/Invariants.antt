use Rattle.dsa_check.proofs.remarks.add_faults.Given as goal
use Rattle.std.proofs.Common.{flat_map, take}
use Rattle.std.specs.Prelude.{IfSome}
use Rattle.dsa_check.specs.{Findings.{AppendsAll}, Remarks.{said_of_fault, IsRemarkPlaced, IsWalked, Says}}

abbrev pub invariant-loop-fault : goal.invariant-loop-fault
invariant-loop-fault l = record {
  walked : IfSome l.walked (IsWalked l.bytes);
  all : Says l.initial.remarks.items l.remarks.items (flat_map said_of_fault (take l.fault-index l.faults));
  placed : AppendsAll (IsRemarkPlaced l.bytes) l.initial.remarks.items l.remarks.items;
}
