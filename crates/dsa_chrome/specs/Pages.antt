-- What is made of the steps of a run: events, and the lanes of engines.
use Rattle.dsa_book.specs.declared.answer.Reply.TheVariants as reply
use Rattle.dsa_book.specs.declared.event.Event.TheVariants as event
use Rattle.std.specs.Prelude.{ℕ, ◌+◌, ◌-◌, List, [], ◌∷◌, ◌++◌, Option, Some, None}
use Rattle.std.specs.Prelude.{drop, length, option_and_then, position, set, slice_get, string_bytes}
use Rattle.dsa_store.specs.{Content.{entry_of}, declared.entry.Entry.{Entry}}
use Rattle.dsa_book.specs.declared.{answer.{Reply.{Reply}, Ticket.{Ticket}}, event.Event.{Event}, fate.FateRow.{FateRow}}
use Rattle.dsa_book.specs.declared.answer.{DispatchAnswer.TheVariants.{Taken}, FetchAnswer.TheVariants.{Fetched}}
use Rattle.dsa_book.specs.declared.answer.{FinishAnswer.TheVariants.{Done}, IssueAnswer.TheVariants.{Ended}}
use Rattle.dsa_book.specs.declared.answer.{StartAnswer.TheVariants.{Abandoned}, SubmitAnswer.TheVariants.{Accepted}}
use Rattle.dsa_device.specs.Running.{Running}
use Rattle.dsa_scenario.specs.declared.run.Record.{Record, TheVariants.{Stepped, Refused}}
use Rattle.dsa_scenario.specs.Steps.{Visit}
use Rattle.dsa_chrome.specs.declared.{lanes.{Lane.{Lane}, Work.{Work}}, page.Page.{Page}, slices.End.{End}}
use Rattle.dsa_chrome.specs.{Counters.{counters_of_record}, Events.{command_of_record, instant_text}}
use Rattle.dsa_chrome.specs.{Lanes.{empty_lane, has_entry, lanes_with}, Slices.{slice_text}}

-- the events so far, the lanes after them, and for each name that was given the client that submitted it
pub record EventsMade : Type 0 where
  pub text : List ℕ
  pub lanes : List Lane
  pub clients : List (Option ℕ)

abbrev pub made_in : Page → EventsMade
made_in page = record { text = string_bytes page.text; lanes = page.lanes.items; clients = page.clients.items }

-- and these events
abbrev pub with_text : List ℕ → EventsMade → EventsMade
with_text text made = record made { text = made.text ++ text }

-- ---- names

-- a step that gives a name: that of a submission, with its client, or that of a member, which no client submitted
abbrev pub naming : Event → Reply → Option (Option ℕ)
naming (event.Submit client queue portal kind desc) (reply.Submit (Accepted ticket)) = Some (Some client)
naming _ (reply.Fetch (Fetched ticket)) = Some None
naming _ _ = None

-- names are given in turn, so each has its number's place
abbrev pub after_name : Option (Option ℕ) → EventsMade → EventsMade
after_name None made = made
after_name (Some client) made = record made { clients = made.clients ++ client ∷ [] }

abbrev pub client_named : ℕ → EventsMade → Option ℕ
client_named name made = option_and_then (λ client. client) (slice_get made.clients name)

-- ---- what comes to an engine

-- an entry that came to an engine with this step is in a lane
abbrev pub after_arrival : ℕ → ℕ → Option Entry → EventsMade → EventsMade
after_arrival number engine None made = made
after_arrival number engine (Some entry) made =
    record made {
      lanes =
          lanes_with engine (record { begin = number; client = client_named entry.name made; entry = entry })
          made.lanes;
    }

-- the engine that took or fetched an entry, and its ticket
abbrev pub arrival : Event → Reply → Option (ℕ × Ticket)
arrival (event.Dispatch engine) (reply.Dispatch (Taken ticket queue)) = Some (engine, ticket)
arrival (event.Fetch engine desc) (reply.Fetch (Fetched ticket)) = Some (engine, ticket)
arrival _ _ = None

abbrev pub after_arrival_of : ℕ → Running → Option (ℕ × Ticket) → EventsMade → EventsMade
after_arrival_of number d None made = made
after_arrival_of number d (Some (engine, ticket)) made =
    after_arrival number engine (entry_of d.state.work.content ticket.cell) made

-- after the name that a step gave, and what came to an engine with it
abbrev pub after_event : ℕ → Running → Record → EventsMade → EventsMade
after_event number d (Stepped step) made =
    after_arrival_of number d (arrival step.event step.reply) (after_name (naming step.event step.reply) made)
after_event number d (Refused fault) made = made

-- ---- what ends

-- the entry in a lane ended: its slice is told, and the lane has no entry
abbrev pub ended_work : ℕ → ℕ → End → Option Work → EventsMade → EventsMade
ended_work place engine end None made = made
ended_work place engine end (Some work) made = record made {
  text = made.text ++ slice_text (place + 1) work (Some end);
  lanes = set made.lanes place (empty_lane engine);
}

abbrev pub ended_lane : ℕ → End → Option Lane → EventsMade → EventsMade
ended_lane place end None made = made
ended_lane place end (Some lane) made = ended_work place lane.engine end lane.work made

abbrev pub ended_in_lane : ℕ → End → EventsMade → EventsMade
ended_in_lane place end made = ended_lane place end (slice_get made.lanes place) made

abbrev pub ended_in : Option ℕ → End → EventsMade → EventsMade
ended_in None end made = made
ended_in (Some place) end made = ended_in_lane place end made

-- the entry of this row ended with this step; one that no engine had is in no lane
abbrev pub after_fate : ℕ → FateRow → EventsMade → EventsMade
after_fate number row made =
    ended_in (position (has_entry row.name) made.lanes) (record { step = number; fate = row.fate }) made

abbrev pub after_ends : ℕ → List FateRow → EventsMade → EventsMade
after_ends number [] made = made
after_ends number (row ∷ rows) made = after_ends number rows (after_fate number row made)

-- how many entries ended with a step
abbrev pub count_of_ends : Reply → ℕ
count_of_ends (reply.Finish (Done status)) = 1
count_of_ends (reply.Start (Abandoned count)) = count
count_of_ends (reply.Issue (Ended aborted)) = aborted
count_of_ends _ = 0

-- the last rows, so many
abbrev pub rows_of_ends : List FateRow → ℕ → List FateRow
rows_of_ends fates count = drop (length fates - count) fates

abbrev pub rows_of_record : List FateRow → Record → List FateRow
rows_of_record fates (Stepped step) = rows_of_ends fates (count_of_ends step.reply)
rows_of_record fates (Refused fault) = rows_of_ends fates 0

-- ---- steps

-- the events of a step itself
abbrev pub events_of : ℕ → Record → Running → List ℕ
events_of number entry d =
    instant_text number entry ++ command_of_record number entry ++ counters_of_record d number entry

-- after a step of this number, with which the device came to stand so
abbrev pub next_made : ℕ → Record → Running → EventsMade → EventsMade
next_made number entry d made =
    after_ends number (rows_of_record d.state.work.fates entry)
    (after_event number d entry (with_text (events_of number entry d) made))

-- after these steps
abbrev pub made_after : List Visit → EventsMade → EventsMade
made_after [] made = made
made_after (step ∷ steps) made = made_after steps (next_made step.number step.entry step.after made)

abbrev pub events_made : List Visit → EventsMade
events_made steps = made_after steps (record { text = []; lanes = []; clients = [] })
