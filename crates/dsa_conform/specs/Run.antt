-- What it is that a document conforms, and where it does not.
use Rattle.std.specs.Prelude.{◌≡◌, ℕ, true, List}
use Rattle.std.specs.Prelude.{[], ◌∷◌, ◌++◌, length, map, take, slice_get, option_map}
use Rattle.std.specs.Prelude.{Option, Some, None}
use Rattle.serde_json.specs.Data.{Data}
use Rattle.dsa_base.specs.Lists.{In}
use Rattle.dsa_regs.specs.declared.Caps.{Caps}
use Rattle.dsa_book.specs.{declared.{answer.Ticket.{Ticket}}, Machine.{is_run}}
use Rattle.dsa_device.specs.Running.{Running}
use Rattle.dsa_scenario.specs.declared.{actions.Action.{Action}, run.Record.{Record}}
use Rattle.dsa_scenario.specs.declared.faults.ScenarioFault.{ScenarioFault, TheVariants.{BadStep, Differs}}
use Rattle.dsa_scenario.specs.{Document.{HasHead, IsOpenable, IsFaultOf}, Run.{event_of, steps_of_records, AreOf}}
use Rattle.dsa_scenario.specs.Steps.{standing, IsWalkTo}
use Rattle.dsa_explain_lines.specs.Parts.{part_of}
use Rattle.dsa_conform.specs.Against.{fact_against}
use Rattle.dsa_conform.specs.Allowed.{IsAllowed}
use Rattle.dsa_conform.specs.Lines.{AreListed, conforms_text, seen_count, allowed_line, difference_text}
use Rattle.dsa_conform.specs.Seen.{Seen, observation_of, AreShown}

-- ---- runs

-- these are the answers of a run of the machine with what the steps ask, and they show what was seen (profile)
pub record IsShownRun (caps : Caps) (capacity : ℕ) (observed : List (Action × Seen)) (records : List Record)
    : Type 0 where
  pub of_actions : AreOf [] (map (λ o. o.0) observed) records
  pub run : is_run caps capacity (steps_of_records records) ≡ true
  pub shown : AreShown (map (λ o. o.1) observed) records

-- an answer that is allowed after a run that shows what was seen before, and its line with the reason that
-- a device has there (profile)
pub record IsAllowedLine (caps : Caps) (capacity : ℕ) (before : List (Action × Seen)) (action : Action) (entry : Record)
    (line : List ℕ) : Type 0 where
  pub records : List Record
  pub run : IsShownRun caps capacity before records
  pub allowed : IsAllowed (standing caps capacity records) (event_of records action) entry
  pub told : line ≡ allowed_line (part_of (standing caps capacity records) (event_of records action)) entry

-- a device has this reason after a run that shows what was seen before (profile)
pub record IsReason (caps : Caps) (capacity : ℕ) (before : List (Action × Seen)) (action : Action) (reason : List ℕ)
    : Type 0 where
  pub records : List Record
  pub run : IsShownRun caps capacity before records
  pub is : reason ≡ part_of (standing caps capacity records) (event_of records action)

-- a device has this fact against what was seen of the step, after a run that shows what was seen before (profile)
pub record IsFact (caps : Caps) (capacity : ℕ) (before : List (Action × Seen)) (here : Action × Seen) (fact : List ℕ)
    : Type 0 where
  pub records : List Record
  pub run : IsShownRun caps capacity before records
  pub is : fact ≡ fact_against (standing caps capacity records) (event_of records here.0) here.1

-- the lines are those of answers that are allowed, in ascending order of the queue taken from and none twice, and
-- whatever is allowed after a run that shows what was seen before has its line, with the reason after some such run
-- (profile)
pub record AreAllLines (caps : Caps) (capacity : ℕ) (before : List (Action × Seen)) (action : Action)
    (lines : List (Record × List ℕ)) : Type 0 where
  pub each : (line : Record × List ℕ) → In line lines → IsAllowedLine caps capacity before action line.0 line.1
  pub all : (records : List Record) → IsShownRun caps capacity before records → (entry : Record)
      → IsAllowed (standing caps capacity records) (event_of records action) entry
      → (line : Record × List ℕ) × In line lines
      × ((reason : List ℕ) × IsReason caps capacity before action reason × (line.1 ≡ allowed_line reason entry))
  pub listed : AreListed lines

-- some run shows what was seen before, none shows what was seen of this step too, and the text tells a fact against
-- that and what was allowed, which is one answer at least (profile)
pub record IsDifference (caps : Caps) (capacity : ℕ) (before : List (Action × Seen)) (here : Action × Seen)
    (number : ℕ) (text : List ℕ) : Type 0 where
  pub some : List Record
  pub run : IsShownRun caps capacity before some
  pub none : (records : List Record) → ¬ IsShownRun caps capacity (before ++ here ∷ []) records
  pub lines : List (Record × List ℕ)
  pub told : AreAllLines caps capacity before here.0 lines
  pub any : (line : Record × List ℕ) × In line lines
  pub fact : List ℕ
  pub against : IsFact caps capacity before here fact
  pub is : text ≡ difference_text number here.1 fact lines

-- ---- the steps of a document

-- each object is a step object with what was seen
abbrev pub AreRead : List Data → List (Action × Seen) → Type 0
AreRead steps observed = map observation_of steps ≡ map Some observed

abbrev pub AreAllRead : List Data → Type 0
AreAllRead steps = (observed : List (Action × Seen)) × AreRead steps observed

-- object i is none, and all before it are (profile)
pub record IsUnreadAt (steps : List Data) (i : ℕ) : Type 0 where
  pub done : List (Action × Seen)
  pub before : AreRead (take i steps) done
  pub here : option_map observation_of (slice_get steps i) ≡ Some None

-- a device has a run whose answers show all that was seen (profile)
pub record IsConforming (caps : Caps) (capacity : ℕ) (steps : List Data) (text : List ℕ) : Type 0 where
  pub observed : List (Action × Seen)
  pub read : AreRead steps observed
  pub records : List Record
  pub run : IsShownRun caps capacity observed records
  pub told : text ≡ conforms_text (length observed) (seen_count observed)

-- some run shows what was seen before step i, and none shows what was seen up to it (profile)
pub record IsDiffering (caps : Caps) (capacity : ℕ) (steps : List Data) (i : ℕ) (text : List ℕ) : Type 0 where
  pub observed : List (Action × Seen)
  pub read : AreRead steps observed
  pub here : Action × Seen
  pub at : slice_get observed i ≡ Some here
  pub differs : IsDifference caps capacity (take i observed) here i text

-- what is told of the step objects: that they conform, or of the first step that does not
abbrev pub IsVerdict : Caps → ℕ → List Data → Option ScenarioFault → List ℕ → Type 0
IsVerdict caps capacity steps None text = IsConforming caps capacity steps text
IsVerdict caps capacity steps (Some (Differs i)) text = IsDiffering caps capacity steps i text
IsVerdict caps capacity steps _ text = ⊥

-- a document that a device can be made for, and what is told of its steps (profile)
pub record IsRunTold (is_told : Caps → ℕ → List Data → Option ScenarioFault → List ℕ → Type 0) (bytes : List ℕ)
    (fault : Option ScenarioFault) (text : List ℕ) : Type 0 where
  pub caps : Caps
  pub capacity : ℕ
  pub steps : List Data
  pub head : HasHead bytes caps capacity steps
  pub opening : IsOpenable caps capacity
  pub verdict : is_told caps capacity steps fault text

-- a document whose object i is the first that is no step object with what was seen (profile)
pub record IsUnread (bytes : List ℕ) (i : ℕ) : Type 0 where
  pub caps : Caps
  pub capacity : ℕ
  pub steps : List Data
  pub head : HasHead bytes caps capacity steps
  pub bad : IsUnreadAt steps i

-- the text, and the fault that is told after it, are what is made of a document, by what is told of its steps (profile)
abbrev pub IsToldOf : (Caps → ℕ → List Data → Option ScenarioFault → List ℕ → Type 0) → List ℕ
    → Option ScenarioFault → List ℕ → Type 0
IsToldOf is_told bytes (Some (BadStep i)) text = IsUnread bytes i × (text ≡ [])
IsToldOf is_told bytes fault text = IsRunTold is_told bytes fault text

-- the same, where they are compared with what was seen (profile)
abbrev pub IsConformance : List ℕ → Option ScenarioFault → List ℕ → Type 0
IsConformance bytes fault text = IsToldOf IsVerdict bytes fault text

-- any other fault is that of the plain run, of a document that has no object to be told so (profile)
abbrev pub IsOtherFault : List ℕ → ScenarioFault → Type 0
IsOtherFault bytes fault = IsFaultOf bytes fault × ((i : ℕ) → ¬ IsUnread bytes i)

-- ---- a walk

-- so far a device has come by what these steps ask, and its answers show what was seen of them
abbrev pub IsFollowedTo : Caps → ℕ → List (Action × Seen) → ℕ → Running → List Ticket → Type 0
IsFollowedTo caps capacity done number now tickets =
    IsWalkTo (λ steps seens. AreShown seens (map (λ step. step.entry) steps)) caps capacity (map (λ o. o.0) done)
    number now tickets (map (λ o. o.1) done)
