-- A reason for each row of a table.
use Rattle.std.specs.Prelude.{Bool, List, [], ◌∷◌}

-- the conditions of the rows, each with a reason in place of what the row leads to
abbrev pub with_reasons : {A R : Type 0} → List (Bool × A) → List R → List (Bool × R)
with_reasons (row ∷ rows) (reason ∷ reasons) = (row.0, reason) ∷ with_reasons rows reasons
with_reasons rows reasons = []
