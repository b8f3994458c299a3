use Rattle.dsa_plans.proofs.submitters.add_members.Given as goal
use Rattle.std.proofs.Common.{◌≡◌, drop, map}
use Rattle.serde_json.specs.View.{view}
use Rattle.dsa_plans.specs.{Said.{each_onto, read_onto}, Submitters.{member_said}}

-- it is left to add the others
abbrev pub invariant-loop-member : goal.invariant-loop-member
invariant-loop-member l =
    each_onto (read_onto (member_said l.batch l.outcomes)) l.entries.items (map view (drop l.member-index l.members))
    ≡ each_onto (read_onto (member_said l.batch l.outcomes)) l.initial.entries.items (map view l.members)
