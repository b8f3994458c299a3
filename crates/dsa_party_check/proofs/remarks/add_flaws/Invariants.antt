use Rattle.dsa_party_check.proofs.remarks.add_flaws.Given as goal
use Rattle.std.proofs.Common.{◌≡◌, ◌++◌, map, flat_map}
use Rattle.std.specs.Vec.Iter.{into_iter_items}
use Rattle.dsa_check.specs.Findings.{AppendsAll}
use Rattle.dsa_party_check.specs.Complaints.{flawed}
use Rattle.dsa_party_check.specs.PartyCheck.{said_of_parties, said_of_flaw, IsPartyRemarkPlaced}

-- it is left to add the others
abbrev pub invariant-loop-flaw : goal.invariant-loop-flaw
invariant-loop-flaw l = record {
  all : map said_of_parties l.remarks.items
      ++ flat_map (said_of_flaw l.is_warning) (map flawed (into_iter_items l.flaw-iterator))
      ≡ map said_of_parties l.initial.remarks.items
      ++ flat_map (said_of_flaw l.is_warning) (map flawed l.fn.flaws.items);
  placed : AppendsAll (IsPartyRemarkPlaced l.bytes) l.initial.remarks.items l.remarks.items;
}
