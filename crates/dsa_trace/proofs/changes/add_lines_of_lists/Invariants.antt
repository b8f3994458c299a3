use Rattle.dsa_trace.proofs.changes.add_lines_of_lists.Given as goal
use Rattle.std.proofs.Common.{◌≡◌, ◌++◌, string_bytes, flat_map}
use Rattle.dsa_base.specs.Numbers.{numbers_below}
use Rattle.dsa_trace.specs.Changes.{list_line}

abbrev pub invariant-loop-number : goal.invariant-loop-number
invariant-loop-number g l = string_bytes l.text
    ≡ string_bytes l.initial.text ++ flat_map (list_line l.device.caps l.device.state) (numbers_below l.number)
