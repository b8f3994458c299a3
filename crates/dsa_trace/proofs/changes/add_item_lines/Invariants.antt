use Rattle.dsa_trace.proofs.changes.add_item_lines.Given as goal
use Rattle.std.proofs.Common.{◌≡◌, ◌++◌, string_bytes, flat_map}
use Rattle.dsa_base.specs.Numbers.{numbers_below}
use Rattle.dsa_trace.specs.Changes.{item_line}

abbrev pub invariant-loop-place : goal.invariant-loop-place
invariant-loop-place g l = string_bytes l.text
    ≡ string_bytes l.initial.text ++ flat_map (item_line l.device.caps l.device.state l.items) (numbers_below l.place)
