use Rattle.dsa_tables.proofs.lines.add_acts.Given as goal
use Rattle.std.proofs.Common.{◌≡◌, ◌++◌, map, string_bytes, flat_map}
use Rattle.dsa_base.specs.Numbers.{numbers_below}
use Rattle.dsa_tables.specs.Lines.{act_line}

abbrev pub invariant-loop-act : goal.invariant-loop-act
invariant-loop-act l = string_bytes l.text
    ≡ string_bytes l.initial.text
    ++ flat_map (act_line (map string_bytes l.labels) (map string_bytes l.acts) l.rows) (numbers_below l.act)
