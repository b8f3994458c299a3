use Rattle.dsa_tables.proofs.objects.add_each_end.Given as goal
use Rattle.std.proofs.Common.{◌≡◌, ◌++◌, string_bytes, take, flat_map, map}
use Rattle.dsa_tables.specs.Objects.{end_object}

abbrev pub invariant-loop-ending : goal.invariant-loop-ending
invariant-loop-ending l = string_bytes l.text
    ≡ string_bytes l.initial.text
    ++ flat_map (end_object (map string_bytes l.labels) (map string_bytes l.acts)) (take l.ending-index l.endings)
