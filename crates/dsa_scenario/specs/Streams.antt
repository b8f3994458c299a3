-- What is written of a run while it is made.
use Rattle.std.specs.Prelude.{◌≡◌, ◌⊎◌, ◌<◌, ⊤, ℕ, List, ◌++◌, length, map, take, flat_map, Option, Some, None, true}
use Rattle.std.specs.Io.KnownBytes.{Appends}
use Rattle.dsa_regs.specs.declared.Caps.{Caps}
use Rattle.dsa_book.specs.declared.answer.Ticket.{Ticket}
use Rattle.dsa_device.specs.Running.{Running}
use Rattle.serde_json.specs.Data.{Data}
use Rattle.dsa_scenario.specs.declared.{actions.Action.{Action}, faults.ScenarioFault.{ScenarioFault}}
use Rattle.dsa_scenario.specs.declared.watched.WatchedWriter.{WatchedWriter}
use Rattle.dsa_scenario.specs.{Actions.{action_of}, Document.{IsDocument, IsOpenable}}
use Rattle.dsa_scenario.specs.Steps.{Visit, IsWalkTo, IsTextOfRun, IsTextOfDocument}
use Rattle.dsa_scenario.specs.Watched.{watched_contents, has_refused, IsSameWriter}

-- ---- pages that are emptied

-- the page is of the steps behind those that were taken from it
abbrev pub IsPageBehind : {Page : Type 0} → List Visit → (List Visit → Page → Type 0) → List Visit → Page → Type 0
IsPageBehind done is_page steps page = (rest : List Visit) × (steps ≡ done ++ rest) × is_page rest page

-- the first steps were taken from the page, and it is of the others
abbrev pub IsPageOfRest : {Page : Type 0} → (List Visit → Type 0) → (List Visit → Page → Type 0) → List Visit → Page
    → Type 0
IsPageOfRest taken is_page steps page = (done : List Visit) × taken done × IsPageBehind done is_page steps page

-- the first of the steps were taken
abbrev pub BeginWith : (List Visit → Type 0) → List Visit → Type 0
BeginWith taken steps = (done : List Visit) × (rest : List Visit) × (steps ≡ done ++ rest) × taken done

-- the first of these step objects were run on a new device of these caps and this capacity, and this is so of the
-- steps that were made (profile)
pub record HasWalked (is_so : List Visit → Type 0) (caps : Caps) (capacity : ℕ) (objects : List Data) : Type 0 where
  pub count : ℕ
  pub actions : List Action
  pub now : Running
  pub tickets : List Ticket
  pub asked : map action_of (take count objects) ≡ map Some actions
  pub walk : IsWalkTo {Page = ⊤} (λ steps page. is_so steps) caps capacity actions count now tickets tt

-- ---- writers that take pages

-- the writer took the first bytes of the text, and not all of them
abbrev pub IsPartWritten : Option (List ℕ) → Option (List ℕ) → List ℕ → Type 0
IsPartWritten held holds text = (count : ℕ) × (count < length text) × Appends held holds (take count text)

-- it took all of a text that is so
abbrev pub IsTextAdded : (List ℕ → Type 0) → Option (List ℕ) → Option (List ℕ) → Type 0
IsTextAdded is_so held holds = (text : List ℕ) × is_so text × Appends held holds text

-- it took the first bytes of a text that is so, and not all of them
abbrev pub IsTextCut : (List ℕ → Type 0) → Option (List ℕ) → Option (List ℕ) → Type 0
IsTextCut is_so held holds = (text : List ℕ) × is_so text × IsPartWritten held holds text

-- since it was the first of these, the writer took the lines of these steps, and refused nothing
pub record HasTakenLines {W : Type 0} (contents : W → Option (List ℕ)) (line : Visit → List ℕ)
    (first now : WatchedWriter W) (steps : List Visit) : Type 0 where
  pub same : IsSameWriter first now
  pub refused : has_refused now ≡ has_refused first
  pub lines : Appends (watched_contents contents first) (watched_contents contents now) (flat_map line steps)

-- since then it took some of these lines, and refused the rest
pub record HasRefusedLines {W : Type 0} (contents : W → Option (List ℕ)) (line : Visit → List ℕ)
    (first now : WatchedWriter W) (steps : List Visit) : Type 0 where
  pub same : IsSameWriter first now
  pub refused : has_refused now ≡ true
  pub lines : IsPartWritten (watched_contents contents first) (watched_contents contents now) (flat_map line steps)

-- ---- texts that were begun

-- the text has the lines of the first of these steps (profile)
abbrev pub AreFirstLines : (Visit → List ℕ) → List Visit → Running → List ℕ → Type 0
AreFirstLines line steps last text = (count : ℕ) × (text ≡ flat_map line (take count steps))

-- the bytes are a document without a fault, and the text has lines of the first steps of a run of it, from the first
-- step on (profile)
pub record AreLinesOfStart (line : Visit → List ℕ) (bytes text : List ℕ) : Type 0 where
  pub caps : Caps
  pub capacity : ℕ
  pub actions : List Action
  pub count : ℕ
  pub document : IsDocument bytes caps capacity actions
  pub opening : IsOpenable caps capacity
  pub of_run : IsTextOfRun (AreFirstLines line) caps capacity (take count actions) text

-- the text is that of a run of the document, or has the lines of its first steps; no fault is told after it (profile)
abbrev pub IsTextBegun : (List Visit → Running → List ℕ → Type 0) → (Visit → List ℕ) → List ℕ → Option ScenarioFault
    → List ℕ → Type 0
IsTextBegun is_text line bytes fault text =
    (fault ≡ None) × (IsTextOfDocument is_text bytes text ⊎ AreLinesOfStart line bytes text)
