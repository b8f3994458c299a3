-- Tables of strings, of which the rows speak.
use Rattle.std.specs.Prelude.{ℕ, List, [], ◌∷◌}
use Rattle.dsa_seen.specs.Table.{Table}

-- these strings, where there may be two, each of at most three bytes
abbrev pub table_of_two : List (List ℕ) → Table
table_of_two strings = record { strings = strings; most = 2; width = 3 }

abbrev pub seven : List ℕ
seven = 7 ∷ []

abbrev pub eight : List ℕ
eight = 8 ∷ []

-- tables with one and with two strings
abbrev pub with_seven : Table
with_seven = table_of_two (seven ∷ [])

abbrev pub with_both : Table
with_both = table_of_two (seven ∷ eight ∷ [])
