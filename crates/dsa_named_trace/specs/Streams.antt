-- What is written of a trace with own names while the run is made.
use Rattle.std.specs.Prelude.{◌≡◌, ◌⊎◌, ⊤, ℕ, true, List, [], ◌++◌, Option, Some, None, flat_map, map, take}
use Rattle.std.specs.Io.KnownBytes.{Appends}
use Rattle.serde_json.specs.Data.{Data}
use Rattle.dsa_regs.specs.declared.Caps.{Caps}
use Rattle.dsa_book.specs.declared.answer.Ticket.{Ticket}
use Rattle.dsa_device.specs.Running.{Running}
use Rattle.dsa_scenario.specs.declared.{actions.Action.{Action}, faults.ScenarioFault.{ScenarioFault}}
use Rattle.dsa_scenario.specs.declared.watched.WatchedWriter.{WatchedWriter}
use Rattle.dsa_scenario.specs.{Actions.{action_of}, Document.{HasHead, IsOpenable}}
use Rattle.dsa_scenario.specs.Steps.{Visit, IsWalkTo, IsTextOfRun}
use Rattle.dsa_scenario.specs.{Streams.{IsPartWritten}, Watched.{watched_contents, has_refused, IsSameWriter}}
use Rattle.dsa_named.specs.{Names.{Own, names_given}, Steps.{NamedVisit, named_visits, with_names}}
use Rattle.dsa_trace.specs.declared.form.Trace.{Trace}
use Rattle.dsa_named_trace.specs.{Lines.{named_trace_line}, Run.{IsNamedTrace}}

-- ---- a run on the way

-- of these steps the lines of the first were taken, the text has those of the others, and these are the own names that
-- all of them gave (profile)
pub record IsNamedPage (form : Trace) (objects : List Data) (taken : List NamedVisit) (steps : List Visit)
    (text : List ℕ) (names : List Own) : Type 0 where
  pub rest : List NamedVisit
  pub split : named_visits objects [] steps ≡ taken ++ rest
  pub lines : text ≡ flat_map (named_trace_line form) rest
  pub given : names ≡ names_given objects steps

-- the page is such a text and such own names
abbrev pub IsNamedPageOf : Trace → List Data → List NamedVisit → List Visit → List ℕ × List Own → Type 0
IsNamedPageOf form objects taken steps page = IsNamedPage form objects taken steps page.0 page.1

-- and this is so of the steps whose lines were taken
abbrev pub IsTakenFrom : Trace → List Data → (List NamedVisit → Type 0) → List Visit → List ℕ × List Own → Type 0
IsTakenFrom form objects is_taken steps page =
    (taken : List NamedVisit) × is_taken taken × IsNamedPageOf form objects taken steps page

-- since it was the first of these, the writer took the lines of these steps, and refused nothing
pub record HasTakenNamed {W : Type 0} (contents : W → Option (List ℕ)) (form : Trace) (first now : WatchedWriter W)
    (taken : List NamedVisit) : Type 0 where
  pub same : IsSameWriter first now
  pub refused : has_refused now ≡ has_refused first
  pub lines : Appends (watched_contents contents first) (watched_contents contents now)
      (flat_map (named_trace_line form) taken)

-- of the lines of these steps it took the first
abbrev pub HasTakenFirst : {W : Type 0} → (W → Option (List ℕ)) → Trace → List Data → WatchedWriter W
    → WatchedWriter W → List Visit → Type 0
HasTakenFirst contents form objects first now steps = (taken : List NamedVisit) × (rest : List NamedVisit)
    × (named_visits objects [] steps ≡ taken ++ rest)
    × HasTakenNamed contents form first now taken

-- of these lines it took some, and refused the rest
pub record HasRefusedNamed {W : Type 0} (contents : W → Option (List ℕ)) (form : Trace) (objects : List Data)
    (first now : WatchedWriter W) (steps : List Visit) : Type 0 where
  pub same : IsSameWriter first now
  pub refused : has_refused now ≡ true
  pub lines : IsPartWritten (watched_contents contents first) (watched_contents contents now)
      (flat_map (named_trace_line form) (named_visits objects [] steps))

-- the first of these actions were run on a new device of these caps and this capacity, and this is so of the steps
pub record IsStoppedAt (is_so : List Visit → Type 0) (caps : Caps) (capacity : ℕ) (actions : List Action)
    : Type 0 where
  pub count : ℕ
  pub now : Running
  pub tickets : List Ticket
  pub walk : IsWalkTo {Page = ⊤} (λ steps page. is_so steps) caps capacity (take count actions) count now tickets tt

-- ---- texts that were begun

-- the text has the lines of the first of these steps (profile)
abbrev pub AreFirstNamedLines : Trace → List NamedVisit → Running → List ℕ → Type 0
AreFirstNamedLines form steps last text = (count : ℕ) × (text ≡ flat_map (named_trace_line form) (take count steps))

-- the bytes are a document without a fault, and the text has lines of the first steps of a run of it, from the first
-- step on, with the own names of its steps (profile)
pub record AreNamedLinesOfStart (form : Trace) (bytes text : List ℕ) : Type 0 where
  pub caps : Caps
  pub capacity : ℕ
  pub objects : List Data
  pub actions : List Action
  pub count : ℕ
  pub head : HasHead bytes caps capacity objects
  pub asked : map action_of objects ≡ map Some actions
  pub opening : IsOpenable caps capacity
  pub of_run : IsTextOfRun (with_names objects (AreFirstNamedLines form)) caps capacity (take count actions) text

-- the text is such a trace, or has the lines of its first steps; no fault is told after it (profile)
abbrev pub IsNamedTraceBegun : Trace → List ℕ → Option ScenarioFault → List ℕ → Type 0
IsNamedTraceBegun form bytes fault text =
    (fault ≡ None) × (IsNamedTrace form bytes text ⊎ AreNamedLinesOfStart form bytes text)
