use Rattle.dsa_keys_rows.proofs.steps.same_ends.Goals as goal
use Rattle.std.proofs.Common.{[], ◌∷◌, Some, None, refl, arith}
use Rattle.dsa_book.specs.declared.fate.Fate.TheVariants.{Completed}
use Rattle.dsa_worked.specs.Setup.{row}
use Rattle.dsa_keys_rows.proofs.Ends.{told}

pub returns-clause-same : goal.returns-clause-same
returns-clause-same c = record {
  rows = row 4 (Some 1) (Completed 2) ∷ [];
  rows' = row 0 (Some 9) (Completed 2) ∷ [];
  left = refl;
  right = refl;
  same = refl;
}

pub returns-clause-none : goal.returns-clause-none
returns-clause-none c = record { rows = []; rows' = []; left = refl; right = refl; same = refl }

pub returns-clause-other_status : goal.returns-clause-other_status
returns-clause-other_status c ends =
    grind (arith, told (row 4 None (Completed 1) ∷ []) (row 4 None (Completed 2) ∷ []) ends)

pub returns-clause-other_label : goal.returns-clause-other_label
returns-clause-other_label c ends =
    grind (arith, told (row 4 None (Completed 1) ∷ []) (row 5 None (Completed 1) ∷ []) ends)

pub returns-clause-one_more : goal.returns-clause-one_more
returns-clause-one_more c ends = grind (arith, told (row 4 None (Completed 1) ∷ []) [] ends)
