use Rattle.dsa_party_check.proofs.parties.add_engines.Given as goal
use Rattle.std.proofs.Common.{◌≡◌, ◌++◌, drop, map}
use Rattle.serde_json.specs.View.{view}
use Rattle.dsa_plans.specs.PartyLabels.{numbered_from}
use Rattle.dsa_party_check.specs.Complaints.{complained}
use Rattle.dsa_party_check.specs.PartyFlaws.{engine_complaints}

-- it is left to add the others
abbrev pub invariant-loop-place : goal.invariant-loop-place
invariant-loop-place l =
    map complained l.complaints.items
    ++ numbered_from (engine_complaints l.count) l.place (map view (drop l.place l.items))
    ≡ map complained l.initial.complaints.items ++ numbered_from (engine_complaints l.count) 0 (map view l.items)
