use Rattle.dsa_party_check.proofs.rules.add_fields.Given as goal
use Rattle.std.proofs.Common.{◌≡◌, ◌++◌, drop, map}
use Rattle.serde_json.specs.View.{view}
use Rattle.dsa_party_check.specs.Complaints.{complained}
use Rattle.dsa_party_check.specs.Rules.{of_fields}
use Rattle.dsa_scenario.specs.Fields.{row_of_field}

-- it is left to add the others
abbrev pub invariant-loop-field : goal.invariant-loop-field
invariant-loop-field l =
    map complained l.complaints.items ++ of_fields l.inside (view l.object) (map row_of_field (drop l.field-index l.fields))
    ≡ map complained l.initial.complaints.items ++ of_fields l.inside (view l.object) (map row_of_field l.fields)
