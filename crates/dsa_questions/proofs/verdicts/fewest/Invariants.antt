use Rattle.dsa_questions.proofs.verdicts.fewest.Given as goal
use Rattle.std.proofs.Common.{◌≡◌, None, drop}
use Rattle.dsa_questions.specs.Verdicts.{fewest_from}

-- it is left to count the others
abbrev pub invariant-loop-row : goal.invariant-loop-row
invariant-loop-row l =
    fewest_from l.conditions l.least (drop l.row-index l.rows) ≡ fewest_from l.conditions None l.rows
