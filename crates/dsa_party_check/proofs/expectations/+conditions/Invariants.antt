use Rattle.dsa_party_check.proofs.expectations.+conditions.Given as goal
use Rattle.std.proofs.Common.{◌≡◌, ◌++◌, ◌+◌, ◌*◌, drop, flat_map, map}
use Rattle.serde_json.specs.View.{view}
use Rattle.dsa_questions.specs.Formed.{as_names}
use Rattle.dsa_party_check.specs.{Complaints.{complained}, Expectations.{of_condition}}

-- it is left to add the others
abbrev pub invariant-add_conditions-loop-condition : goal.invariant-add_conditions-loop-condition
invariant-add_conditions-loop-condition l =
    map complained l.complaints.items
    ++ flat_map (of_condition l.depth (as_names l.naming)) (map view (drop l.condition-index l.conditions))
    ≡ map complained l.initial.complaints.items
    ++ flat_map (of_condition l.depth (as_names l.naming)) (map view l.conditions)

abbrev pub decreases-add_condition : goal.decreases-add_condition
decreases-add_condition l = 4 * l.depth

abbrev pub decreases-add_one_key : goal.decreases-add_one_key
decreases-add_one_key l = 4 * l.depth + 3

abbrev pub decreases-add_single : goal.decreases-add_single
decreases-add_single l = 4 * l.depth + 2

abbrev pub decreases-add_conditions : goal.decreases-add_conditions
decreases-add_conditions l = 4 * l.depth + 1
