-- Own names at the end of a line.
use Rattle.std.specs.Prelude.{ℕ, List, [], ◌∷◌, ◌++◌, codes, decimal, flat_map}
use Rattle.dsa_named.specs.Names.{Own}

-- an own name after this mark
abbrev pub own_words : List ℕ → Own → List ℕ
own_words mark own = mark ++ decimal own.0 ++ codes " is " ++ own.1

-- the own names in brackets; nothing where there is none (profile)
abbrev pub names_note : List Own → List ℕ
names_note [] = []
names_note (own ∷ more) = own_words (codes " [") own ++ flat_map (own_words (codes ", ")) more ++ codes "]"
