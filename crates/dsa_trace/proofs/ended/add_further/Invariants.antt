use Rattle.dsa_trace.proofs.ended.add_further.Given as goal
use Rattle.std.proofs.Common.{◌≡◌, ◌++◌, string_bytes, take, flat_map}
use Rattle.std.specs.Prelude.{codes}
use Rattle.dsa_trace.specs.Ended.{fate_object}

abbrev pub invariant-loop-row : goal.invariant-loop-row
invariant-loop-row l = string_bytes l.text
    ≡ string_bytes l.initial.text ++ flat_map (fate_object (codes ",{\"name\":")) (take l.row-index l.rows)
