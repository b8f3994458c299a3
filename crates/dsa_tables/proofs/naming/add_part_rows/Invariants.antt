use Rattle.dsa_tables.proofs.naming.add_part_rows.Given as goal
use Rattle.std.proofs.Common.{◌≡◌, ◌++◌, drop}
use Rattle.std.specs.Prelude.{filter}
use Rattle.dsa_tables.specs.{Lines.{is_in_part}, Naming.{rows_of_part}}

-- what was added and what is left are all
abbrev pub invariant-loop-row : goal.invariant-loop-row
invariant-loop-row l = l.ordered.items ++ filter (λ row. is_in_part l.part row.finding) (drop l.row-index l.rows)
    ≡ l.fn.ordered.items ++ rows_of_part l.rows l.part
