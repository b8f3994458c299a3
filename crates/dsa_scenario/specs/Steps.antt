-- What is made of a run, step by step.
use Rattle.std.specs.Prelude.{◌≡◌, ℕ, true, false, List, [], ◌∷◌, ◌++◌, length, map, slice_get, unwrap_or}
use Rattle.std.specs.Prelude.{Some, flat_map}
use Rattle.dsa_regs.specs.declared.Caps.{Caps}
use Rattle.dsa_book.specs.declared.answer.Ticket.{Ticket}
use Rattle.dsa_book.specs.{State.{State, opening}, Machine.{is_run, replay, stored_steps}}
use Rattle.dsa_device.specs.{Running.{Running, running_at_first, IsReplay}, Runs.{IsRunOf}}
use Rattle.dsa_scenario.specs.declared.{actions.Action.{Action}, run.Record.{Record}}
use Rattle.dsa_scenario.specs.{Document.{IsDocument, IsOpenable}, Lines.{line_of_text, record_text, row_text}}
use Rattle.dsa_scenario.specs.Run.{steps_of_records, AreOf, IsTable}

-- how a device stands that has come by these records
abbrev pub standing : Caps → ℕ → List Record → Running
standing caps capacity records =
    let history = stored_steps (steps_of_records records) in
    record {
      caps = caps;
      room = capacity;
      capacity = capacity;
      history = history;
      anew = false;
      state = unwrap_or (replay caps history) (opening caps);
    }

-- a step of a run: its number, the device before it, what came of it, and the device after it (profile)
pub record Visit : Type 0 where
  pub number : ℕ
  pub before : Running
  pub entry : Record
  pub after : Running

abbrev pub visit : ℕ → Running → Record → Running → Visit
visit number before entry after = record { number = number; before = before; entry = entry; after = after }

-- behind those before, the steps of these records in turn (profile)
abbrev pub visits : Caps → ℕ → List Record → List Record → List Visit
visits caps capacity before [] = []
visits caps capacity before (entry ∷ entries) =
    let records = before ++ entry ∷ [] in
    visit (length before) (standing caps capacity before) entry (standing caps capacity records)
    ∷ visits caps capacity records entries

-- a new device of these caps and this capacity, which gave no ticket
pub record IsAtFirst (caps : Caps) (capacity : ℕ) (now : Running) (tickets : List Ticket) : Type 0 where
  pub device : now ≡ running_at_first caps capacity
  pub replay : IsReplay now
  pub none : tickets ≡ []

-- so far a device has come by these actions, with these tickets by name, and this page is of its steps (profile)
pub record IsWalkTo {Page : Type 0} (is_page : List Visit → Page → Type 0) (caps : Caps) (capacity : ℕ)
    (actions : List Action) (number : ℕ) (now : Running) (tickets : List Ticket) (page : Page) : Type 0 where
  pub records : List Record
  pub of_actions : AreOf [] actions records
  pub count : length records ≡ number
  pub run : IsRunOf (running_at_first caps capacity) (map (λ step. step.event) (steps_of_records records)) []
      (steps_of_records records) now
  pub room : now.room ≡ capacity
  pub not_anew : now.anew ≡ false
  pub replay : IsReplay now
  pub table : IsTable (slice_get tickets) records
  pub in_turn : length tickets ≡ now.state.work.setup.next_name
  pub made : is_page (visits caps capacity [] records) page

-- the text is made of a run of these actions on a new device of these caps and this capacity: of its
-- steps in turn, and of how the device stands at last (profile)
pub record IsTextOfRun (is_text : List Visit → Running → List ℕ → Type 0) (caps : Caps) (capacity : ℕ)
    (actions : List Action) (text : List ℕ) : Type 0 where
  pub records : List Record
  pub last : State
  pub of_actions : AreOf [] actions records
  pub run : is_run caps capacity (steps_of_records records) ≡ true
  pub replayed : replay caps (stored_steps (steps_of_records records)) ≡ Some last
  pub rendered : is_text (visits caps capacity [] records) (standing caps capacity records) text

-- the bytes are a document without a fault, and the text is made of a run of it (profile)
pub record IsTextOfDocument (is_text : List Visit → Running → List ℕ → Type 0) (bytes text : List ℕ)
    : Type 0 where
  pub caps : Caps
  pub capacity : ℕ
  pub actions : List Action
  pub document : IsDocument bytes caps capacity actions
  pub opening : IsOpenable caps capacity
  pub of_run : IsTextOfRun is_text caps capacity actions text

-- the line of a step of a run (profile)
abbrev pub line_of_step : Visit → List ℕ
line_of_step step = line_of_text (record_text step.entry)

-- the text has a line for each of these steps, and one for each fate that the device tells at last (profile)
abbrev pub AreLinesOfSteps : List Visit → Running → List ℕ → Type 0
AreLinesOfSteps steps last text =
    text ≡ flat_map line_of_step steps ++ flat_map (λ row. line_of_text (row_text row)) last.state.work.fates
