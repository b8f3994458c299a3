use Rattle.dsa_check.proofs.reasons.add_reasons.Given as goal
use Rattle.std.proofs.Common.{map, take}
use Rattle.serde_json.specs.View.{view}
use Rattle.dsa_check.specs.Findings.{Appends}
use Rattle.dsa_check.specs.Reasons.{AreReasonsAt}
use Rattle.dsa_scenario.specs.Fields.{row_of_field}

abbrev pub invariant-loop-field : goal.invariant-loop-field
invariant-loop-field l =
    Appends (AreReasonsAt (view l.object) (map row_of_field l.fields) l.in_caps
    (map row_of_field (take l.field-index l.fields)))
    l.initial.reasons.items l.reasons.items
