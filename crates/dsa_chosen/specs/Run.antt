-- The lines of an explanation that are chosen.
use Rattle.std.specs.Prelude.{◌≡◌, ℕ, Bool, List, ◌++◌, filter, flat_map}
use Rattle.dsa_device.specs.Running.{Running}
use Rattle.dsa_scenario.specs.{Lines.{line_of_text, row_text}, Steps.{Visit, IsTextOfDocument}}
use Rattle.dsa_explain_lines.specs.Lines.{explanation_of_step}
use Rattle.dsa_chosen.specs.declared.selection.Selection.{Selection}
use Rattle.dsa_chosen.specs.Selected.{is_selected, selected_fates}

abbrev pub is_visit_selected : Selection → Visit → Bool
is_visit_selected selection step = is_selected selection step.entry step.after.state.work.fates

-- the lines of the steps that are selected, each as the whole explanation has it
abbrev pub chosen_lines : Selection → List Visit → List ℕ
chosen_lines selection steps = flat_map explanation_of_step (filter (is_visit_selected selection) steps)

-- the text has these lines, and then the fate that is selected, as a run prints it (profile)
abbrev pub AreChosenOf : Selection → List Visit → Running → List ℕ → Type 0
AreChosenOf selection steps last text =
    text ≡ chosen_lines selection steps
    ++ flat_map (λ row. line_of_text (row_text row)) (selected_fates selection.name last.state.work.fates)

-- the bytes are a document without a fault, and the text has the lines that are chosen of a run of it (profile)
abbrev pub AreChosen : Selection → List ℕ → List ℕ → Type 0
AreChosen selection bytes text = IsTextOfDocument (AreChosenOf selection) bytes text
