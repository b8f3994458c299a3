use Rattle.dsa_report_rows.proofs.explorations.texts_with_names.Goals as goal
use Rattle.std.proofs.Common.{List, [], ◌∷◌, ◌++◌, Some, ap, codes, true}
use Rattle.dsa_explore.specs.declared.found.Ending.{Ending}
use Rattle.dsa_questions.specs.Worked.{explored_so, questions_on_literals}
use Rattle.dsa_tables.specs.{Ends.{ends_line}, Naming.{rows_of_act}, Table.{table_lines}}

pub returns-clause-ends : goal.returns-clause-ends
unfolding questions_on_literals rows_of_act ends_line
returns-clause-ends c memory endings none =
    ap (λ (l : List Ending). table_lines (codes "x" ∷ []) (codes "y" ∷ []) (explored_so memory true).rows.items
    ++ ends_line (codes "x" ∷ []) (codes "y" ∷ []) (Some l)) none
