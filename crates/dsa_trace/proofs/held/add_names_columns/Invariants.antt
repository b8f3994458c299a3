use Rattle.dsa_trace.proofs.held.add_names_columns.Given as goal
use Rattle.std.proofs.Common.{◌≡◌, ◌++◌, string_bytes, flat_map}
use Rattle.dsa_base.specs.Numbers.{numbers_below}
use Rattle.dsa_trace.specs.Held.{list_column}

abbrev pub invariant-loop-number : goal.invariant-loop-number
invariant-loop-number g l = string_bytes l.text
    ≡ string_bytes l.initial.text
    ++ flat_map (list_column l.device.caps l.device.state) (numbers_below l.number)
