-- The lines of entries and of acts.
use Rattle.std.specs.Prelude.{ℕ, ◌==◌, Bool, false, List, [], ◌∷◌, ◌++◌, codes, filter, flat_map}
use Rattle.dsa_explore.specs.declared.found.{Ask.TheVariants.{Submission, Act}, Found.{Found}}
use Rattle.dsa_explore.specs.declared.found.Finding.{Finding, TheVariants.{Answer, End, Wait, Removal}}
use Rattle.dsa_tables.specs.declared.parts.Part.{Part, TheVariants.{Entry, Answers, Waits, Removals}}
use Rattle.dsa_tables.specs.Words.{label_name, removes_words, row_words, waits_words}

-- an entry's part has the answers to its submission and how it ended. An act has three parts: its answers, the entries
-- that its command waits for, and those that it removed
abbrev pub is_in_part : Part → Finding → Bool
is_in_part (Entry number) (Answer (Submission label) answer) = label == number
is_in_part (Entry number) (End label fate) = label == number
is_in_part (Answers number) (Answer (Act act) answer) = act == number
is_in_part (Waits number) (Wait act label) = act == number
is_in_part (Removals number) (Removal act label) = act == number
is_in_part part finding = false

-- what stands before the first finding of a part
abbrev pub part_mark : Part → List ℕ
part_mark (Waits act) = codes "; " ++ waits_words
part_mark (Removals act) = codes "; " ++ removes_words
part_mark part = codes ": "

-- what stands there where it has none
abbrev pub part_none : Part → List ℕ
part_none (Waits act) = []
part_none (Removals act) = []
part_none part = codes ": nothing"

-- rows with commas between them, behind this mark, or these words where there is no row
abbrev pub rows_words : List (List ℕ) → List ℕ → List ℕ → List Found → List ℕ
rows_words labels mark none [] = none
rows_words labels mark none (row ∷ rows) =
    mark ++ row_words labels row ++ flat_map (λ more. codes ", " ++ row_words labels more) rows

-- a part has its findings in the order of the rows
abbrev pub part_text : List (List ℕ) → List Found → Part → List ℕ
part_text labels rows part =
    rows_words labels (part_mark part) (part_none part) (filter (λ row. is_in_part part row.finding) rows)

-- the line of the entry with this label: what it may be answered and how it may end
unfoldable pub entry_line : List (List ℕ) → List Found → ℕ → List ℕ
entry_line labels rows label = label_name labels label ++ part_text labels rows (Entry label) ++ codes "\n"

-- the line of the act with this number: its answers, the entries that it waits for, and those that it removes
unfoldable pub act_line : List (List ℕ) → List (List ℕ) → List Found → ℕ → List ℕ
act_line labels acts rows act =
    label_name acts act ++ part_text labels rows (Answers act) ++ part_text labels rows (Waits act)
    ++ part_text labels rows (Removals act) ++ codes "\n"
