-- The run that a comparison follows, and what is made of it.
use Rattle.std.specs.Prelude.{◌≡◌, ◌⊎◌, ℕ, zero, suc, true, List, [], ◌∷◌, ◌++◌, length, map, take, filter_map}
use Rattle.std.specs.Prelude.{slice_get}
use Rattle.std.specs.Prelude.{Option, Some, None, Bool, false}
use Rattle.serde_json.specs.Data.{Data}
use Rattle.dsa_regs.specs.declared.Caps.{Caps}
use Rattle.dsa_book.specs.declared.answer.Ticket.{Ticket}
use Rattle.dsa_device.specs.Running.{Running}
use Rattle.dsa_scenario.specs.declared.{actions.Action.{Action}, run.Record.{Record}}
use Rattle.dsa_scenario.specs.declared.faults.ScenarioFault.{ScenarioFault, TheVariants.{Differs}}
use Rattle.dsa_scenario.specs.Run.{ticket_given_by, event_of, answered_by, IsTable, Leads}
use Rattle.dsa_scenario.specs.Steps.{standing, Visit, IsWalkTo, IsTextOfRun}
use Rattle.dsa_conform.specs.Allowed.{IsAllowed}
use Rattle.dsa_conform.specs.Run.{AreRead, IsShownRun, IsToldOf}
use Rattle.dsa_conform.specs.Seen.{Seen, nothing_seen, shows, AreShown}

-- the answers of these steps show what was seen
abbrev pub ShowAll : List (Action × Seen) → List Visit → Type 0
ShowAll observed steps = AreShown (map (λ o. o.1) observed) (map (λ step. step.entry) steps)

-- what was seen of the first steps, so many, and nothing of the others (profile)
abbrev pub seen_before : ℕ → List (Action × Seen) → List (Action × Seen)
seen_before count [] = []
seen_before zero (o ∷ os) = (o.0, nothing_seen) ∷ seen_before zero os
seen_before (suc count) (o ∷ os) = o ∷ seen_before count os

-- these are all steps, or no run shows what was seen of the next one too (profile)
abbrev pub IsFarthest : Caps → ℕ → List (Action × Seen) → ℕ → Type 0
IsFarthest caps capacity observed count = (count ≡ length observed)
    ⊎ ((here : Action × Seen) × (slice_get observed count ≡ Some here)
    × ((records : List Record) → ¬ IsShownRun caps capacity (take count observed ++ here ∷ []) records))

-- the steps are read, and so many of the first may be answered as was seen
pub record IsReadFarthest (caps : Caps) (capacity : ℕ) (steps : List Data) (count : ℕ) : Type 0 where
  pub observed : List (Action × Seen)
  pub read : AreRead steps observed
  pub farthest : IsFarthest caps capacity observed count

-- a run shows what was seen of the first steps, so many, and of the next one it may be answered what does not show it
-- (profile)
pub record IsShownUpTo (caps : Caps) (capacity : ℕ) (observed : List (Action × Seen)) (count : ℕ) : Type 0 where
  pub records : List Record
  pub run : IsShownRun caps capacity (take count observed) records
  pub next : (here : Action × Seen) → slice_get observed count ≡ Some here → (entry : Record)
      × IsAllowed (standing caps capacity records) (event_of records here.0) entry × (shows here.1 entry ≡ false)

-- the text is made of a run of the steps that shows what was seen of the first, and of as many as any run does
-- (profile)
pub record IsTextAsSeen (is_text : List Visit → Running → List ℕ → Type 0) (caps : Caps) (capacity : ℕ)
    (steps : List Data) (text : List ℕ) : Type 0 where
  pub observed : List (Action × Seen)
  pub read : AreRead steps observed
  pub count : ℕ
  pub farthest : IsFarthest caps capacity observed count
  pub of_run : IsTextOfRun (λ made last told. ShowAll (seen_before count observed) made × is_text made last told)
      caps capacity (map (λ o. o.0) observed) text

-- no fault is told after it
abbrev pub IsToldAsSeen : (List Visit → Running → List ℕ → Type 0) → Caps → ℕ → List Data → Option ScenarioFault
    → List ℕ → Type 0
IsToldAsSeen is_text caps capacity steps None text = IsTextAsSeen is_text caps capacity steps text
IsToldAsSeen is_text caps capacity steps (Some fault) text = ⊥

-- the text, and the fault that is told after it, are what is made of the run of a document that shows what was seen
-- (profile)
abbrev pub IsMadeAsSeen : (List Visit → Running → List ℕ → Type 0) → List ℕ → Option ScenarioFault → List ℕ → Type 0
IsMadeAsSeen is_text bytes fault text = IsToldOf (IsToldAsSeen is_text) bytes fault text

-- ---- a walk

-- how many steps show what was seen, of so many
abbrev pub count_shown : ℕ → Option ScenarioFault → ℕ
count_shown steps (Some (Differs i)) = i
count_shown steps fault = steps

-- a device has made one step, and this is its record: it answers what is asked, and shows what was seen
pub record IsStepMade (now : Running) (tickets : List Ticket) (action : Action) (seen : Seen) (entry : Record)
    (new : Running) (more : List Ticket) : Type 0 where
  pub answers : (before : List Record) → IsTable (slice_get tickets) before → answered_by entry ≡ event_of before action
  pub leads : Leads now entry new
  pub noted : more ≡ tickets ++ filter_map ticket_given_by (entry ∷ [])
  pub shown : shows seen entry ≡ true

-- a device has made one step by itself, and this is whether its answer shows what was seen
pub record IsStepTried (now : Running) (tickets : List Ticket) (action : Action) (seen : Seen) (is_shown : Bool)
    (new : Running) (more : List Ticket) : Type 0 where
  pub entry : Record
  pub answers : (before : List Record) → IsTable (slice_get tickets) before → answered_by entry ≡ event_of before action
  pub leads : Leads now entry new
  pub noted : more ≡ tickets ++ filter_map ticket_given_by (entry ∷ [])
  pub shown : is_shown ≡ shows seen entry

-- the page is of these steps, and their answers show this
abbrev pub IsPageShown : {Page : Type 0} → (List Visit → Page → Type 0) → List Visit → Page × List Seen → Type 0
IsPageShown is_page steps pair = is_page steps pair.0 × AreShown pair.1 (map (λ step. step.entry) steps)

-- so far a device has come by what these steps ask, its answers show what was seen of them, and this page is of its
-- steps
abbrev pub IsPageTo : {Page : Type 0} → (List Visit → Page → Type 0) → Caps → ℕ → List (Action × Seen) → ℕ → Running
    → List Ticket → Page → Type 0
IsPageTo {Page} is_page caps capacity done number now tickets page =
    IsWalkTo {Page = Page × List Seen} (IsPageShown is_page) caps capacity (map (λ o. o.0) done) number now tickets
    (page, map (λ o. o.1) done)
