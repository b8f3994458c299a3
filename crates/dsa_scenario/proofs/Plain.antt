-- The lines of a walk.
use Rattle.std.proofs.Common.{◌≡◌, ℕ, List, [], ◌∷◌, ◌++◌, refl, ap, ◌∙◌, flat_map}
use Rattle.dsa_regs.specs.declared.Caps.{Caps}
use Rattle.dsa_scenario.specs.declared.{actions.Action.{Action}, run.Record.{Record}}
use Rattle.dsa_scenario.specs.{Lines.{record_text, line_of_text}, Run.{AreLinesOf}, Scenario.{IsRenderingOf}}
use Rattle.dsa_scenario.specs.Steps.{visits, line_of_step, AreLinesOfSteps, IsTextOfRun, IsTextOfDocument}

-- the lines of steps are those of their records
lines_of_visits : (caps : Caps) (capacity : ℕ) (before records : List Record)
    → flat_map line_of_step (visits caps capacity before records)
    ≡ flat_map (λ entry. line_of_text (record_text entry)) records
lines_of_visits caps capacity before [] = refl
lines_of_visits caps capacity before (entry ∷ records) =
    ap (λ lines. line_of_text (record_text entry) ++ lines)
    (lines_of_visits caps capacity (before ++ entry ∷ []) records)

-- the lines of a walk are those of a run
pub lines_of_run : (caps : Caps) (capacity : ℕ) (actions : List Action) (text : List ℕ)
    → IsTextOfRun AreLinesOfSteps caps capacity actions text → AreLinesOf caps capacity actions text
lines_of_run caps capacity actions text h = record {
  records = h.records;
  last = h.last;
  events = h.of_actions;
  run = h.run;
  replayed = h.replayed;
  rendered = h.rendered ∙ rw (lines_of_visits caps capacity [] h.records, h.replayed) refl;
}

-- and of a document
pub lines_of_document : (bytes text : List ℕ) → IsTextOfDocument AreLinesOfSteps bytes text → IsRenderingOf bytes text
lines_of_document bytes text h = record {
  caps = h.caps;
  capacity = h.capacity;
  actions = h.actions;
  document = h.document;
  opening = h.opening;
  lines_of_run = lines_of_run h.caps h.capacity h.actions text h.of_run;
}
