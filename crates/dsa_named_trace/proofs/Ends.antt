-- The end of a line, and lines of documents whose steps have no own names.
use Rattle.std.proofs.Common.{◌≡◌, ◌∙◌, ◌-◌, ◌<◌, ℕ, List, [], ◌∷◌, ◌++◌, ap, refl, length, take, flat_map, arith}
use Rattle.std.proofs.Common.{length-append, take_at}
use Rattle.serde_json.specs.Data.{Data}
use Rattle.dsa_device.specs.Running.{Running}
use Rattle.dsa_scenario.specs.{declared.run.Record.{Record}, Steps.{Visit}}
use Rattle.dsa_named.specs.Names.{AreNameless, Own}
use Rattle.dsa_named.specs.Steps.{named_visit, named_visits, with_names}
use Rattle.dsa_named_lines.proofs.Nameless.{no-names}
use Rattle.dsa_trace.specs.declared.form.{Part.TheVariants.{Event, LineEnd, Step}, Trace.{Trace}}
use Rattle.dsa_trace.specs.declared.form.Trace.TheVariants.{Table, Wide, Json, Changes}
use Rattle.dsa_trace.specs.Lines.{answered_text, outcome_text, step_line, trace_line_of_step, traced_event_words}
use Rattle.dsa_trace.specs.{Columns.{marked, state_members}, Held.{held_lines}, Marks.{mark}, Run.{IsTraceOf}}
use Rattle.dsa_named_trace.specs.{Lines.{before_end, named_trace_line, noted_line, trace_note}, Run.{IsNamedTraceOf}}

-- the text ends with these bytes
abbrev pub HasEnd : List ℕ → List ℕ → Type 0
HasEnd end text = (front : List ℕ) × (text ≡ front ++ end)

-- each line ends as its form says
pub ends : (form : Trace) (told : List ℕ) (number : ℕ) (entry : Record) (now : Running)
    → HasEnd (mark form LineEnd) (step_line form told number entry now)
ends Table told number entry now = (_, refl)
ends Wide told number entry now = (_, refl)
ends Json told number entry now = (
  marked Json Step number ++ (mark Json Event ++ traced_event_words entry) ++ answered_text Json entry
      ++ outcome_text entry now.state.work.fates ++ state_members Json now.caps now.state,
  refl,
)
ends Changes told number entry now = (_, refl)

-- what comes before the end of a line
pub front_cut : (end front line : List ℕ) → line ≡ front ++ end → take (length line - length end) line ≡ front
front_cut end front line is =
    ap (λ l. take (length l - length end) l) is
    ∙ take_at front end (length (front ++ end) - length end) (omega (arith, length-append front end))

-- a note before the end
pub cut_end : (end front line note : List ℕ) → line ≡ front ++ end → before_end end note line ≡ front ++ note ++ end
cut_end end front line note is = ap (λ l. l ++ note ++ end) (front_cut end front line is)

-- where there is an own name, a line has a note
pub noted_with : (form : Trace) (names : List Own) (line : List ℕ) → 0 < length names
    → noted_line form names line ≡ before_end (mark form LineEnd) (trace_note form names) line
noted_with form [] line some = absurd (omega (arith, some))
noted_with form (own ∷ more) line some = refl

same_lines : (objects : List Data) (form : Trace) (before steps : List Visit) → AreNameless objects
    → flat_map (named_trace_line form) (named_visits objects before steps) ≡ flat_map (trace_line_of_step form) steps
same_lines objects form before [] none = refl
same_lines objects form before (step ∷ steps) none =
    let so_far = before ++ step ∷ [] in
    let later = flat_map (named_trace_line form) (named_visits objects so_far steps) in
    ap (λ names. named_trace_line form (named_visit names step) ++ later) (no-names objects so_far none)
    ∙ ap (λ l. trace_line_of_step form step ++ l) (same_lines objects form so_far steps none)

pub nameless_trace : (objects : List Data) (form : Trace) (steps : List Visit) (last : Running) (text : List ℕ)
    → AreNameless objects → with_names objects (IsNamedTraceOf form) steps last text → IsTraceOf form steps last text
nameless_trace objects form steps last text none is =
    is ∙ ap (λ l. l ++ held_lines form last.caps last.state) (same_lines objects form [] steps none)
