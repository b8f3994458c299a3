use Rattle.dsa_check.proofs.remarks.add_warnings.Given as goal
use Rattle.std.proofs.Common.{flat_map, take}
use Rattle.std.specs.Prelude.{IfSome}
use Rattle.dsa_check.specs.{Findings.{AppendsAll}, Remarks.{said_of_warning, IsRemarkPlaced, IsWalked, Says}}

abbrev pub invariant-loop-warning : goal.invariant-loop-warning
invariant-loop-warning l = record {
  walked : IfSome l.walked (IsWalked l.bytes);
  all : Says l.initial.remarks.items l.remarks.items (flat_map said_of_warning (take l.warning-index l.warnings));
  placed : AppendsAll (IsRemarkPlaced l.bytes) l.initial.remarks.items l.remarks.items;
}
