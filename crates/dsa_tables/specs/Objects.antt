-- What a search found as JSON objects, one in each line. Their texts are written as they are: no label has a character
-- that JSON would escape (dsa_plans/src/laws).
use Rattle.std.specs.Prelude.{ℕ, Bool, List, [], ◌++◌, codes, decimal, flat_map, option_map, Option, Some, None}
use Rattle.dsa_event_text.specs.Text.{truth_text}
use Rattle.dsa_explore.specs.declared.found.{Ask.TheVariants.{Submission}, Ending.{Ending}, Explored.{Explored}}
use Rattle.dsa_explore.specs.declared.found.{Finding.{Finding, TheVariants.{Answer, End}}, Found.{Found}}
use Rattle.dsa_tables.specs.{Words.{what_words}, Ends.{way_words}, Naming.{row_subject, table_rows}}

-- what stands before the name of an entry or of an act
abbrev pub subject_mark : Finding → List ℕ
subject_mark (Answer (Submission label) answer) = codes "{\"entry\":\""
subject_mark (End label fate) = codes "{\"entry\":\""
subject_mark finding = codes "{\"command\":\""

-- what stands behind a text, to the end of the line: the fewest steps
abbrev pub last_steps : ℕ → List ℕ
last_steps steps = codes "\",\"steps\":" ++ decimal steps ++ codes "}\n"

-- a row: whose it is, and what is said of that
unfoldable pub row_object : (labels acts : List (List ℕ)) → Found → List ℕ
row_object labels acts row =
    subject_mark row.finding ++ row_subject labels acts row.finding ++ codes "\",\"what\":\""
    ++ what_words labels row.finding ++ last_steps row.steps

-- a way in which a run may end
unfoldable pub end_object : (labels acts : List (List ℕ)) → Ending → List ℕ
end_object labels acts ending = codes "{\"end\":\"" ++ way_words labels acts ending ++ last_steps ending.steps

-- all ways that a search found, if it looked for them
abbrev pub end_objects : (labels acts : List (List ℕ)) → Option (List Ending) → List ℕ
end_objects labels acts None = []
end_objects labels acts (Some endings) = flat_map (end_object labels acts) endings

-- the rows in the order of the table, and the ends (profile)
abbrev pub body_objects : (labels acts : List (List ℕ)) → Explored → List ℕ
body_objects labels acts explored =
    flat_map (row_object labels acts) (table_rows labels acts explored.rows.items)
    ++ end_objects labels acts (option_map (λ endings. endings.items) explored.ends)

-- the last line: how many states were stored and how many steps tried, the most steps that lead to a state, and whether
-- all was tried (profile)
abbrev pub search_object : ℕ → ℕ → ℕ → Bool → List ℕ
search_object states tried depth is_complete =
    codes "{\"states\":" ++ decimal states ++ codes ",\"steps\":" ++ decimal tried
    ++ codes ",\"depth\":" ++ decimal depth ++ codes ",\"complete\":" ++ truth_text is_complete ++ codes "}\n"
