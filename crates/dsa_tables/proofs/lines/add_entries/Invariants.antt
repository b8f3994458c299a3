use Rattle.dsa_tables.proofs.lines.add_entries.Given as goal
use Rattle.std.proofs.Common.{◌≡◌, ◌++◌, map, string_bytes, flat_map}
use Rattle.dsa_base.specs.Numbers.{numbers_below}
use Rattle.dsa_tables.specs.Lines.{entry_line}

abbrev pub invariant-loop-label : goal.invariant-loop-label
invariant-loop-label l = string_bytes l.text
    ≡ string_bytes l.initial.text
    ++ flat_map (entry_line (map string_bytes l.labels) l.rows) (numbers_below l.label)
