use Rattle.dsa_scenario.proofs.lines.add_rows.Given as goal
use Rattle.std.proofs.Common.{◌≡◌, ◌++◌, string_bytes, take, flat_map}
use Rattle.dsa_scenario.specs.Lines.{line_of_text, row_text}

abbrev pub invariant-loop-row : goal.invariant-loop-row
invariant-loop-row l = string_bytes l.text
    ≡ string_bytes l.initial.text ++ flat_map (λ row. line_of_text (row_text row)) (take l.row-index l.fates)
