-- Lines of documents whose steps have no own names.
use Rattle.std.proofs.Common.{◌≡◌, ◌∙◌, ℕ, List, [], ◌∷◌, ◌++◌, Bool, true, false, None, Option, Some, ap, refl}
use Rattle.std.specs.List.{cons_option}
use Rattle.std.specs.Prelude.{cond, filter, flat_map, slice_get, option_and_then}
use Rattle.serde_json.specs.Data.{Data}
use Rattle.dsa_book.specs.declared.answer.Ticket.{Ticket}
use Rattle.dsa_device.specs.Running.{Running}
use Rattle.dsa_scenario.specs.{Lines.{line_of_text, row_text}, Run.{ticket_given_by}, Steps.{Visit}}
use Rattle.dsa_explain_lines.specs.Lines.{explanation_of_step}
use Rattle.dsa_chosen.specs.declared.selection.Selection.{Selection}
use Rattle.dsa_chosen.specs.{Run.{AreChosenOf, chosen_lines, is_visit_selected}, Selected.{selected_fates}}
use Rattle.dsa_named.specs.Names.{AreNameless, Own, names_given, own_text}
use Rattle.dsa_named.specs.Steps.{NamedVisit, named_visit, named_visits, with_names}
use Rattle.dsa_named_lines.specs.{Lines.{line_with_names}, Run.{AreNamedLinesOf, lines_with_names}}

-- the own name that an object has
abbrev own_of_object : Ticket → Option Data → Option Own
own_of_object ticket object = option_and_then (λ o. option_and_then (λ text. Some (ticket.name, text)) (own_text o)) object

object-nameless : (ticket : Ticket) (object : Option Data) → ((o : Data) → object ≡ Some o → own_text o ≡ None)
    → own_of_object ticket object ≡ None
object-nameless ticket None none = refl
object-nameless ticket (Some o) none = ap (option_and_then (λ text. Some (ticket.name, text))) (none o refl)

given-nameless : (objects : List Data) (number : ℕ) (ticket : Option Ticket) → AreNameless objects
    → option_and_then (λ t. own_of_object t (slice_get objects number)) ticket ≡ None
given-nameless objects number None none = refl
given-nameless objects number (Some ticket) none =
    object-nameless ticket (slice_get objects number) (λ o is. none number o is)

pub no-names : (objects : List Data) (steps : List Visit) → AreNameless objects → names_given objects steps ≡ []
no-names objects [] none = refl
no-names objects (step ∷ steps) none =
    ap (λ own. cons_option own (names_given objects steps))
    (given-nameless objects step.number (ticket_given_by step.entry) none)
    ∙ no-names objects steps none

-- the line of a step that is selected, before those of the others
one-line : (selection : Selection) (step : Visit) (named : List NamedVisit) (steps : List Visit) (is : Bool)
    → flat_map line_with_names named ≡ flat_map explanation_of_step steps
    → flat_map line_with_names (cond is (named_visit [] step ∷ named) named)
    ≡ flat_map explanation_of_step (cond is (step ∷ steps) steps)
one-line selection step named steps true same = ap (λ l. explanation_of_step step ++ l) same
one-line selection step named steps false same = same

same-lines : (objects : List Data) (selection : Selection) (before steps : List Visit) → AreNameless objects
    → lines_with_names selection (named_visits objects before steps) ≡ chosen_lines selection steps
same-lines objects selection before [] none = refl
same-lines objects selection before (step ∷ steps) none =
    let so_far = before ++ step ∷ [] in
    let later = named_visits objects so_far steps in
    ap (λ names. lines_with_names selection (named_visit names step ∷ later)) (no-names objects so_far none)
    ∙ one-line selection step (filter (λ named. is_visit_selected selection named.step) later)
    (filter (is_visit_selected selection) steps) (is_visit_selected selection step)
    (same-lines objects selection so_far steps none)

pub nameless : (objects : List Data) (selection : Selection) (steps : List Visit) (last : Running) (text : List ℕ)
    → AreNameless objects → with_names objects (AreNamedLinesOf selection) steps last text
    → AreChosenOf selection steps last text
nameless objects selection steps last text none is =
    is ∙ ap (λ l. l ++ flat_map (λ row. line_of_text (row_text row))
    (selected_fates selection.name last.state.work.fates)) (same-lines objects selection [] steps none)
