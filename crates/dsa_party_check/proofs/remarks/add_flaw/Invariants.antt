use Rattle.dsa_party_check.proofs.remarks.add_flaw.Given as goal
use Rattle.std.proofs.Common.{◌≡◌, ◌++◌, map}
use Rattle.std.specs.Vec.Iter.{into_iter_items}
use Rattle.dsa_check.specs.Findings.{AppendsAll}
use Rattle.dsa_party_check.specs.Complaints.{complained}
use Rattle.dsa_party_check.specs.PartyCheck.{said_of_parties, said_of_complaints, IsPartyRemarkPlaced}

-- it is left to add the others
abbrev pub invariant-loop-complaint : goal.invariant-loop-complaint
invariant-loop-complaint l = record {
  all : map said_of_parties l.remarks.items
      ++ said_of_complaints l.is_warning l.fault l.subject (map complained (into_iter_items l.complaint-iterator))
      ≡ map said_of_parties l.initial.remarks.items
      ++ said_of_complaints l.is_warning l.fault l.subject (map complained l.fn.flaw.complaints.items);
  placed : AppendsAll (IsPartyRemarkPlaced l.bytes) l.initial.remarks.items l.remarks.items;
}
