use Rattle.dsa_tables.proofs.objects.add_row_objects.Given as goal
use Rattle.std.proofs.Common.{◌≡◌, ◌++◌, string_bytes, take, flat_map, map}
use Rattle.dsa_tables.specs.Objects.{row_object}

abbrev pub invariant-loop-row : goal.invariant-loop-row
invariant-loop-row l = string_bytes l.text
    ≡ string_bytes l.initial.text
    ++ flat_map (row_object (map string_bytes l.labels) (map string_bytes l.acts)) (take l.row-index l.rows)
