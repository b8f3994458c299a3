use Rattle.dsa_chosen.proofs.fates.add_fates_of.Given as goal
use Rattle.std.proofs.Common.{◌≡◌, ◌++◌, string_bytes, take, flat_map}
use Rattle.std.specs.Prelude.{filter}
use Rattle.dsa_scenario.specs.Lines.{line_of_text, row_text}
use Rattle.dsa_chosen.specs.Selected.{is_row_of}

abbrev pub invariant-loop-row : goal.invariant-loop-row
invariant-loop-row l = string_bytes l.text
    ≡ string_bytes l.initial.text
    ++ flat_map (λ row. line_of_text (row_text row)) (filter (is_row_of l.name) (take l.row-index l.fates))
