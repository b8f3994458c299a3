-- The line of how runs can end.
use Rattle.std.specs.Prelude.{ℕ, Bool, true, false, List, [], ◌∷◌, ◌++◌, codes, decimal, flat_map, Option, Some, None}
use Rattle.dsa_explore.specs.declared.found.{Ask.{Ask, TheVariants.{Submission, Act}}, Ending.{Ending}}
use Rattle.dsa_tables.specs.Words.{label_name}

-- the name of what is still to be asked for, behind a mark
abbrev pub ask_words : List (List ℕ) → List (List ℕ) → List ℕ → Ask → List ℕ
ask_words labels acts mark (Submission label) = mark ++ label_name labels label
ask_words labels acts mark (Act act) = mark ++ label_name acts act

-- all parties are through, or they are stuck at these
abbrev pub left_words : List (List ℕ) → List (List ℕ) → List Ask → List ℕ
left_words labels acts [] = codes "all through"
left_words labels acts (ask ∷ asks) =
    ask_words labels acts (codes "stuck at ") ask ++ flat_map (ask_words labels acts (codes " and ")) asks

-- whether entries are held
abbrev pub entries_held_words : Bool → List ℕ
entries_held_words true = codes " with entries held"
entries_held_words false = []

-- how a run may end
abbrev pub way_words : List (List ℕ) → List (List ℕ) → Ending → List ℕ
way_words labels acts ending = left_words labels acts ending.left.items ++ entries_held_words ending.holds_entries

-- an ending behind a mark, and with how few steps it may come
abbrev pub ending_words : List (List ℕ) → List (List ℕ) → List ℕ → Ending → List ℕ
ending_words labels acts mark ending =
    mark ++ way_words labels acts ending ++ codes " [" ++ decimal ending.steps ++ codes "]"

-- all endings
abbrev pub endings_words : List (List ℕ) → List (List ℕ) → List Ending → List ℕ
endings_words labels acts [] = codes "ends: none"
endings_words labels acts (ending ∷ endings) =
    ending_words labels acts (codes "ends: ") ending ++ flat_map (ending_words labels acts (codes ", ")) endings

-- the line of the endings that a search found, if it looked for them (profile)
unfoldable pub ends_line : List (List ℕ) → List (List ℕ) → Option (List Ending) → List ℕ
ends_line labels acts None = []
ends_line labels acts (Some endings) = endings_words labels acts endings ++ codes "\n"
