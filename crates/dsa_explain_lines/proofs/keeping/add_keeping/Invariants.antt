use Rattle.dsa_explain_lines.proofs.keeping.add_keeping.Given as goal
use Rattle.std.proofs.Common.{◌≡◌, ◌++◌, string_bytes, flat_map}
use Rattle.dsa_base.specs.Numbers.{numbers_below}
use Rattle.dsa_explain_lines.specs.Parts.{kept_part}

abbrev pub invariant-loop-other : goal.invariant-loop-other
invariant-loop-other g l = string_bytes l.text
    ≡ string_bytes l.initial.text ++ flat_map (kept_part l.device.state.work l.group) (numbers_below l.other)
