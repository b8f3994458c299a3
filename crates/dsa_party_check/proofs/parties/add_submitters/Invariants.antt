use Rattle.dsa_party_check.proofs.parties.add_submitters.Given as goal
use Rattle.std.proofs.Common.{◌≡◌, ◌++◌, drop, map}
use Rattle.serde_json.specs.View.{view}
use Rattle.dsa_plans.specs.PartyLabels.{numbered_from}
use Rattle.dsa_party_check.specs.Complaints.{complained}
use Rattle.dsa_party_check.specs.PartyFlaws.{submitter_complaints}

-- it is left to add the others
abbrev pub invariant-loop-step : goal.invariant-loop-step
invariant-loop-step l =
    map complained l.complaints.items
    ++ numbered_from submitter_complaints l.step (map view (drop l.step l.steps))
    ≡ map complained l.initial.complaints.items ++ numbered_from submitter_complaints 0 (map view l.steps)
