-- The table of a search.
use Rattle.std.specs.Prelude.{ℕ, Bool, true, false, List, [], ◌++◌, codes, decimal, flat_map, length, option_map}
use Rattle.dsa_base.specs.Numbers.{numbers_below}
use Rattle.dsa_event_text.specs.Text.{count_text}
use Rattle.dsa_explore.specs.declared.found.{Explored.{Explored}, Found.{Found}}
use Rattle.dsa_tables.specs.{Lines.{entry_line, act_line}, Ends.{ends_line}}

-- the lines of all labels, and then those of all acts (profile)
abbrev pub table_lines : List (List ℕ) → List (List ℕ) → List Found → List ℕ
table_lines labels acts rows =
    flat_map (entry_line labels rows) (numbers_below (length labels))
    ++ flat_map (act_line labels acts rows) (numbers_below (length acts))

-- whether all was tried, or a bound was met
abbrev pub search_end : Bool → List ℕ
search_end true = codes ", complete\n"
search_end false = codes ", bounded\n"

-- how many states were stored and how many steps tried, the most steps that lead to a state, and whether all was tried
abbrev pub search_line : ℕ → ℕ → ℕ → Bool → List ℕ
search_line states tried depth is_complete =
    count_text [] states (codes "state") (codes "states")
    ++ count_text (codes ", ") tried (codes "step") (codes "steps") ++ codes ", depth " ++ decimal depth
    ++ search_end is_complete

-- the lines of all labels and acts, and that of the ends (profile)
abbrev pub body_text : List (List ℕ) → List (List ℕ) → Explored → List ℕ
body_text labels acts explored =
    table_lines labels acts explored.rows.items
    ++ ends_line labels acts (option_map (λ endings. endings.items) explored.ends)

-- the table of what a search found, with these names of labels and of acts (profile)
abbrev pub table_text : List (List ℕ) → List (List ℕ) → Explored → List ℕ
table_text labels acts explored =
    body_text labels acts explored
    ++ search_line explored.states explored.tried explored.depth explored.is_complete
