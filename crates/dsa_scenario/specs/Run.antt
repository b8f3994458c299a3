-- What a document's actions come to on a device.
use Rattle.dsa_book.specs.declared.answer.Reply.TheVariants as reply
use Rattle.dsa_book.specs.declared.event.Event.TheVariants as event
use Rattle.std.specs.Prelude.{◌≡◌, ℕ, ◌==◌, true, List, [], ◌∷◌, ◌++◌, Option, Some, None, Result, Ok, Err, find}
use Rattle.std.specs.Prelude.{filter_map, unwrap_or, ⊤}
use Rattle.dsa_regs.specs.declared.Caps.{Caps}
use Rattle.dsa_book.specs.declared.answer.{Ticket.{Ticket}, SubmitAnswer.TheVariants.{Accepted}}
use Rattle.dsa_book.specs.declared.answer.{FetchAnswer.TheVariants.{Fetched}, Reply.{Reply}}
use Rattle.dsa_book.specs.declared.event.{Event.{Event}, Step.{Step}}
use Rattle.dsa_book.specs.{State.{State}, Machine.{is_run, replay, stored_steps}}
use Rattle.dsa_scenario.specs.declared.actions.{Action.{Action, TheVariants.{Ask, Finish, Refuse}}, BadWord.{BadWord}}
use Rattle.dsa_scenario.specs.declared.run.Record.{Record, TheVariants.{Stepped, Refused}}
use Rattle.dsa_device.specs.{Running.{Running, after_answer}}
use Rattle.dsa_scenario.specs.Lines.{lines_of_run}

-- ---- tickets

-- the ticket that an answer gives with a new name
abbrev pub given_by_reply : Reply → Option Ticket
given_by_reply (reply.Submit (Accepted ticket)) = Some ticket
given_by_reply (reply.Fetch (Fetched ticket)) = Some ticket
given_by_reply _ = None

abbrev pub ticket_given_by : Record → Option Ticket
ticket_given_by (Stepped step) = given_by_reply step.reply
ticket_given_by (Refused word) = None

-- the ticket under which the name was given in these records
abbrev pub found : List Record → ℕ → Option Ticket
found records name = find (λ ticket. ticket.name == name) (filter_map ticket_given_by records)

-- that ticket, or cell 0 with a name that was not given (profile)
abbrev pub ticket_of_name : List Record → ℕ → Ticket
ticket_of_name records name = unwrap_or (found records name) (record { cell = record { 0 = 0 }; name = name })

-- a table by name has the tickets that these records gave
abbrev pub IsTable : (ℕ → Option Ticket) → List Record → Type 0
IsTable table records = (name : ℕ) → table name ≡ found records name

-- ---- events

-- the event that an action asks for after these records, or the refusal of its word (profile)
abbrev pub event_of : List Record → Action → Result Event BadWord
event_of before (Ask e) = Ok e
event_of before (Finish engine name outcome) = Ok (event.Finish engine (ticket_of_name before name) outcome)
event_of before (Refuse word) = Err word

-- the event that a record answers, or the refusal that it is
abbrev pub answered_by : Record → Result Event BadWord
answered_by (Stepped step) = Ok step.event
answered_by (Refused word) = Err word

-- after those before, there is a record for each action, in order (profile)
abbrev pub AreOf : List Record → List Action → List Record → Type 0
AreOf before [] [] = ⊤
AreOf before [] (entry ∷ entries) = ⊥
AreOf before (action ∷ actions) [] = ⊥
AreOf before (action ∷ actions) (entry ∷ entries) =
    (answered_by entry ≡ event_of before action) × AreOf (before ++ entry ∷ []) actions entries

-- ---- runs

-- the step that the device made for it
abbrev pub step_of : Record → Option Step
step_of (Stepped step) = Some step
step_of (Refused word) = None

-- the steps that the device made
abbrev pub steps_of_records : List Record → List Step
steps_of_records records = filter_map step_of records

-- what a record says of the device: it made the step, or was not asked
abbrev pub Leads : Running → Record → Running → Type 0
Leads now (Stepped step) after = after_answer now step.event step.reply ≡ Some after
Leads now (Refused word) after = after ≡ now

-- the lines are those of a run of these actions on a new device of these caps and this capacity,
-- with the fates that its history leads to (profile)
pub record AreLinesOf (caps : Caps) (capacity : ℕ) (actions : List Action) (lines : List ℕ) : Type 0 where
  pub records : List Record
  pub last : State
  pub events : AreOf [] actions records
  pub run : is_run caps capacity (steps_of_records records) ≡ true
  pub replayed : replay caps (stored_steps (steps_of_records records)) ≡ Some last
  pub rendered : lines ≡ lines_of_run records last.work.fates
