use Rattle.dsa_party_check.proofs.parties.add_members.Given as goal
use Rattle.std.proofs.Common.{◌≡◌, ◌++◌, drop, map}
use Rattle.serde_json.specs.View.{view}
use Rattle.dsa_plans.specs.PartyLabels.{numbered_from}
use Rattle.dsa_party_check.specs.Complaints.{complained}
use Rattle.dsa_party_check.specs.PartyFlaws.{member_of_step}

-- it is left to add the others
abbrev pub invariant-loop-member : goal.invariant-loop-member
invariant-loop-member l =
    map complained l.complaints.items
    ++ numbered_from (member_of_step l.step l.kind) l.member (map view (drop l.member l.members))
    ≡ map complained l.initial.complaints.items ++ numbered_from (member_of_step l.step l.kind) 0 (map view l.members)
