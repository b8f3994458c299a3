-- The lines of one step more.
use Rattle.std.proofs.Common.{◌≡◌, ◌∙◌, ℕ, List, [], ◌∷◌, ◌++◌, None, ap, refl}
use Rattle.std.proofs.lemmas.{List.{append-nil, Elements.{filter-append}}, Grind.{flat_map-append}}
use Rattle.std.specs.Prelude.{filter, flat_map}
use Rattle.dsa_device.specs.Running.{Running}
use Rattle.dsa_scenario.specs.Steps.{Visit}
use Rattle.dsa_explain_lines.specs.{Lines.{explanation_of_step}, Run.{IsExplanationOf}}
use Rattle.dsa_chosen.specs.declared.selection.Selection.{Selection}
use Rattle.dsa_chosen.specs.Run.{AreChosenOf, chosen_lines, is_visit_selected}

pub chosen-more : (selection : Selection) (steps : List Visit) (step : Visit)
    → chosen_lines selection (steps ++ step ∷ [])
    ≡ chosen_lines selection steps ++ chosen_lines selection (step ∷ [])
chosen-more selection steps step =
    ap (flat_map explanation_of_step) (filter-append (is_visit_selected selection) steps (step ∷ []))
    ∙ flat_map-append explanation_of_step (filter (is_visit_selected selection) steps)
    (filter (is_visit_selected selection) (step ∷ []))

-- nothing is wanted
abbrev all_lines : Selection
all_lines = record { name = None; client = None; answers = None }

all-selected : (steps : List Visit) → filter (is_visit_selected all_lines) steps ≡ steps
all-selected [] = refl
all-selected (step ∷ steps) = ap (λ more. step ∷ more) (all-selected steps)

pub all-kept : (steps : List Visit) (last : Running) (text : List ℕ) → AreChosenOf all_lines steps last text
    → IsExplanationOf steps last text
all-kept steps last text is =
    is ∙ append-nil (chosen_lines all_lines steps) ∙ ap (flat_map explanation_of_step) (all-selected steps)
