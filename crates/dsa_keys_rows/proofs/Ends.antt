-- What ends of two steps say by labels.
use Rattle.std.proofs.Common.{◌≡◌, List, [], map, sym, ap, ◌∙◌}
use Rattle.dsa_book.specs.declared.fate.FateRow.{FateRow}
use Rattle.dsa_keys.specs.Labels.{labelled_row, HaveSameEnds}
use Rattle.dsa_keys_rows.specs.Holding.{hundreds, after_fates}

-- what is added to nothing is told alike
pub told : (rows rows' : List FateRow)
    → HaveSameEnds hundreds hundreds (after_fates []) (after_fates rows) (after_fates []) (after_fates rows')
    → map (labelled_row hundreds) rows ≡ map (labelled_row hundreds) rows'
told rows rows' ends =
    ap (map (labelled_row hundreds)) ends.left ∙ ends.same ∙ sym (ap (map (labelled_row hundreds)) ends.right)
