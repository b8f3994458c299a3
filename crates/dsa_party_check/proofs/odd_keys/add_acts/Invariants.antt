use Rattle.dsa_party_check.proofs.odd_keys.add_acts.Given as goal
use Rattle.std.proofs.Common.{◌≡◌, ◌++◌, drop, map}
use Rattle.serde_json.specs.View.{view}
use Rattle.dsa_plans.specs.PartyLabels.{numbered_from}
use Rattle.dsa_party_check.specs.Complaints.{complained}
use Rattle.dsa_party_check.specs.OddKeys.{odd_of_act}

-- it is left to add the others
abbrev pub invariant-loop-step : goal.invariant-loop-step
invariant-loop-step l =
    map complained l.complaints.items
    ++ numbered_from odd_of_act l.step (map view (drop l.step l.steps))
    ≡ map complained l.initial.complaints.items ++ numbered_from odd_of_act 0 (map view l.steps)
