use Rattle.dsa_questions.proofs.showing.row_with.Given as goal
use Rattle.std.proofs.Common.{◌≡◌, ◌&&◌, drop}
use Rattle.std.specs.Prelude.{◌==◌, find}
use Rattle.dsa_questions.specs.Asked.{is_row_asked}

-- it is left to look through the others
abbrev pub invariant-loop-row : goal.invariant-loop-row
invariant-loop-row l =
    find (λ row. is_row_asked l.conditions row.finding && row.steps == l.steps) (drop l.row-index l.rows)
    ≡ find (λ row. is_row_asked l.conditions row.finding && row.steps == l.steps) l.rows
