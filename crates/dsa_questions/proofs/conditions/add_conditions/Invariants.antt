use Rattle.dsa_questions.proofs.conditions.add_conditions.Given as goal
use Rattle.std.proofs.Common.{◌≡◌, drop, map, string_bytes}
use Rattle.serde_json.specs.View.{view}
use Rattle.dsa_plans.specs.Said.{each_onto, read_onto}
use Rattle.dsa_questions.specs.Conditions.{condition_said}

-- it is left to add the others
abbrev pub invariant-loop-item : goal.invariant-loop-item
invariant-loop-item l =
    each_onto
    (read_onto (condition_said (map string_bytes l.parties.labels.items) (map string_bytes l.parties.acts.items)))
    l.conditions.items (map view (drop l.item-index l.items))
    ≡ each_onto
    (read_onto (condition_said (map string_bytes l.parties.labels.items) (map string_bytes l.parties.acts.items)))
    l.initial.conditions.items (map view l.items)
