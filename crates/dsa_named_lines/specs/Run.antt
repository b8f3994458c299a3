-- The lines of an explanation that are chosen, with own names.
use Rattle.std.specs.Prelude.{◌≡◌, ℕ, List, ◌++◌, filter, flat_map}
use Rattle.dsa_device.specs.Running.{Running}
use Rattle.dsa_scenario.specs.Lines.{line_of_text, row_text}
use Rattle.dsa_chosen.specs.declared.selection.Selection.{Selection}
use Rattle.dsa_chosen.specs.{Run.{is_visit_selected}, Selected.{selected_fates}}
use Rattle.dsa_named.specs.Steps.{NamedVisit, IsNamedText}
use Rattle.dsa_named_lines.specs.Lines.{line_with_names}

-- the lines of the steps that are selected, each with its own names
abbrev pub lines_with_names : Selection → List NamedVisit → List ℕ
lines_with_names selection steps =
    flat_map line_with_names (filter (λ named. is_visit_selected selection named.step) steps)

-- the text has these lines, and then the fate that is selected, as a run prints it (profile)
abbrev pub AreNamedLinesOf : Selection → List NamedVisit → Running → List ℕ → Type 0
AreNamedLinesOf selection steps last text =
    text ≡ lines_with_names selection steps
    ++ flat_map (λ row. line_of_text (row_text row)) (selected_fates selection.name last.state.work.fates)

-- the bytes are a document without a fault, and the text has the lines that are chosen of a run of it, with the own
-- names of its steps (profile)
abbrev pub AreNamedLines : Selection → List ℕ → List ℕ → Type 0
AreNamedLines selection bytes text = IsNamedText (AreNamedLinesOf selection) bytes text
