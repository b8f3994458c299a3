use Rattle.dsa_check.proofs.warnings.told_keys.Given as goal
use Rattle.std.proofs.Common.{◌≡◌, map, flat_map, take, String, string_bytes}
use Rattle.std.specs.declared.alloc.Global.{Global}
use Rattle.serde_json.specs.View.{view}
use Rattle.dsa_scenario.specs.Fields.{row_of_field, Row}
use Rattle.dsa_check.specs.Warnings.{told_for}

abbrev pub invariant-loop-field : goal.invariant-loop-field
invariant-loop-field l =
    map (λ (key : String Global). string_bytes key) l.told.items
    ≡ flat_map (λ (row : Row). told_for (view l.object) (map row_of_field l.fields) row.0)
    (map row_of_field (take l.field-index l.fields))
