-- Lines with own names.
use Rattle.std.specs.Prelude.{ℕ, ◌==◌, ◌||◌, Bool, List, ◌++◌, codes, decimal, filter}
use Rattle.std.specs.List.{list_any}
use Rattle.dsa_book.specs.State.{State}
use Rattle.dsa_scenario.specs.declared.run.Record.{Record}
use Rattle.dsa_scenario.specs.{Lines.{record_text}, Run.{answered_by}}
use Rattle.dsa_explain_lines.specs.{Lines.{asked_words, shown}, Parts.{part_of}}
use Rattle.dsa_chosen.specs.Selected.{is_about}
use Rattle.dsa_named_lines.specs.Awaited.{names_told}
use Rattle.dsa_named.specs.{Names.{Own}, Notes.{names_note}, Steps.{NamedVisit}}

-- the line of a step with this record, after which the device stands so, mentions the entry of this name: the step is
-- about it, or the line says that a command waits for it (profile)
abbrev pub is_mentioned : ℕ → Record → State → Bool
is_mentioned name entry s =
    is_about name entry s.work.fates || list_any (λ told. told == name) (names_told entry s)

-- the own names of the entries that it mentions (profile)
abbrev pub named_in : List Own → Record → State → List Own
named_in names entry s = filter (λ own. is_mentioned own.0 entry s) names

-- the step of this number, what was asked and answered, this part, and this note
abbrev pub line_and_note : List ℕ → List ℕ → ℕ → Record → List ℕ
line_and_note part note number entry =
    decimal number ++ codes " " ++ asked_words entry ++ (codes " -> " ++ record_text entry)
    ++ (shown part entry ++ (note ++ codes "\n"))

-- the line of a step of a run, with the own names of the entries that it mentions (profile)
abbrev pub line_with_names : NamedVisit → List ℕ
line_with_names named =
    let step = named.step in
    line_and_note (part_of step.before (answered_by step.entry))
    (names_note (named_in named.names step.entry step.after.state)) step.number step.entry
