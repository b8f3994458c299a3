-- A device as its callers see it, and what each call makes of it.
use Rattle.std.specs.Prelude.{◌≡◌, ℕ, ◌+◌, ◌-◌, ◌^◌, ◌≤◌, ◌<◌, ◌==◌, cond, min, Bool, true, false, IsTrue, List, []}
use Rattle.std.specs.Prelude.{◌∷◌, ◌++◌, length, Option, Some, None, option_map, option_and_then, is_some}
use Rattle.dsa_base.specs.Rows.{when, passes}
use Rattle.dsa_regs.specs.{declared.Caps.{Caps}, Caps.{check_caps}}
use Rattle.dsa_store.specs.{declared.entry.Entry.{Entry}, Content.{Content, entry_of, held_count}}
use Rattle.dsa_book.specs.declared.{event.{Event.{Event}, Step.{Step}}, answer.Reply.{Reply}}
use Rattle.dsa_book.specs.declared.answer.{Ticket.{Ticket}, FinishAnswer.{FinishAnswer, TheVariants.{Done}}}
use Rattle.dsa_book.specs.declared.note.ActiveCommand.{ActiveCommand}
use Rattle.dsa_book.specs.declared.fate.{FateRow.{FateRow}, PastFates.{PastFates}}
use Rattle.dsa_book.specs.{Records.{Records, kept_fates}, State.{Setup, State, opening}}
use Rattle.dsa_book.specs.Machine.{next, with_work, history_after, is_full_reply, is_legal, replay}
use Rattle.dsa_laws.specs.Forgotten.{with_past_fates}
use Rattle.dsa_queues.specs.Queues.{Kept, IsCounted}
use Rattle.dsa_engines.specs.Engines.{EnginesState, IsInStep, work}
use Rattle.dsa_admin.specs.Admin.{Watch, IsAwaiting, is_counted_by}

-- what a device has; for how many steps it took memory, how many its history may have, and those that it stored;
-- whether the history began anew; and the state (profile)
pub record Running : Type 0 where
  pub caps : Caps
  pub room : ℕ
  pub capacity : ℕ
  pub history : List Step
  pub anew : Bool
  pub state : State

-- a device before its first step (profile)
abbrev pub running_at_first : Caps → ℕ → Running
running_at_first caps capacity = record {
  caps = caps;
  room = capacity;
  capacity = capacity;
  history = [];
  anew = false;
  state = opening caps;
}

-- after a step that leads to this state: the history has it where its reply is one that is kept (profile)
abbrev pub running_after : Running → Event → Reply → State → Running
running_after d event reply s = record d {
  history =
      history_after d.history (record { event = event; reply = reply });
  state = s;
}

-- after this reply to an event, where it may come: Full exactly where the history has no room, and
-- then nothing changes, else what the machine allows (profile)
abbrev pub after_answer : Running → Event → Reply → Option Running
after_answer d event reply =
    cond (length d.history == d.capacity)
    (when (is_full_reply event reply) d)
    (option_map (running_after d event reply) (next d.state event reply))

-- after these steps, each of which may come where those before it lead (profile)
abbrev pub after_answers : Running → List Step → Option Running
after_answers d [] = Some d
after_answers d (step ∷ steps) =
    option_and_then (λ t. after_answers t steps) (after_answer d step.event step.reply)

-- ---- a history that begins anew

-- how many more names fit 32 bits (profile)
abbrev pub names_left : Running → ℕ
names_left d = 2 ^ 32 - 1 - d.state.work.setup.next_name

-- the state with what is kept of its fates (profile)
abbrev pub with_kept_fates : PastFates → State → State
with_kept_fates past s = with_work s (record s.work { fates = kept_fates past s.work.fates })

-- the device where its history begins anew: no step is stored, there is room for a step for each name that is left at
-- most, and the state stays, with the fates that are kept (profile)
abbrev pub running_anew : Running → PastFates → Running
running_anew d past = record {
  caps = d.caps;
  room = d.room;
  capacity = min d.room (names_left d);
  history = [];
  anew = true;
  state = with_kept_fates past d.state;
}

-- ---- what always holds

-- the history is a legal one within its capacity, and the state is its replay (profile)
pub record IsReplay (d : Running) : Type 0 where
  pub caps : IsTrue (check_caps d.caps)
  pub bounded : d.capacity ≤ 2 ^ 20
  pub within : length d.history ≤ d.capacity
  pub legal : is_legal d.caps d.history ≡ true
  pub replayed : replay d.caps d.history ≡ Some d.state

-- before its history the device made these steps, and forgot these fates: all steps together are a legal history, the
-- state is their replay but for these fates, and names do not run over; a history that did not begin anew is the
-- device's whole past (profile)
pub record HasPast (d : Running) : Type 0 where
  pub past : List Step
  pub forgotten : List FateRow
  pub caps : IsTrue (check_caps d.caps)
  pub bounded : d.room ≤ 2 ^ 20
  pub limited : d.capacity ≤ d.room
  pub within : length d.history ≤ d.capacity
  pub legal : is_legal d.caps (past ++ d.history) ≡ true
  pub replayed : replay d.caps (past ++ d.history) ≡ Some (with_past_fates forgotten d.state)
  pub named : d.state.work.setup.next_name + d.capacity < length d.history + 2 ^ 32
  pub no_past : d.anew ≡ false → past ≡ []
  pub no_forgotten : d.anew ≡ false → forgotten ≡ []
  pub full_room : d.anew ≡ false → d.capacity ≡ d.room

-- there are rows for the fates, for all that is held, and for all that may come before the history is full (profile)
abbrev pub HasRows : ℕ → Running → Type 0
HasRows rows d =
    length d.state.work.fates + held_count d.state.work.content + d.capacity ≤ rows + length d.history

-- ---- the parts that a device is made of

-- a device by its parts (profile)
abbrev pub running_of : Caps → Setup → EnginesState → Content → Option ActiveCommand → Records → Running
running_of caps setup engines_state content active book = record {
  caps = caps;
  room = book.room;
  capacity = book.capacity;
  history = book.history;
  anew = book.anew;
  state = record { work = work setup engines_state content book.fates; active = active };
}

-- the parts belong together: queues, engines and store are in step (profile)
pub record IsWholeDevice (cells : ℕ) (engines_state : EnginesState) (d : Running) : Type 0 where
  pub past : HasPast d
  pub in_step : IsInStep d.state.work.setup engines_state cells d.state.work.content

-- the parts belong together, there are rows enough, and the numbers that are kept are counts over the lists (profile)
pub record IsRunning (cells rows : ℕ) (kept : Kept) (engines_state : EnginesState) (watch : Watch)
    (d : Running) : Type 0 where
  pub whole : IsWholeDevice cells engines_state d
  pub rows_fit : HasRows rows d
  pub counted : IsCounted kept d.state.work.content
  pub awaiting : IsAwaiting watch d.state.work.setup.next_name d.state.work.content

-- ---- the end of an entry that is awaited

-- the entry in the ticket's cell, where a command is active (profile)
abbrev pub watched_in : State → Ticket → Option Entry
watched_in s ticket = cond (is_some s.active) (entry_of s.work.content ticket.cell) None

-- how many of those that the active command counts this answer ends: one where it is Done and the
-- entry that was read before it is such (profile)
abbrev pub awaited_end : Watch → Option Entry → FinishAnswer → ℕ
awaited_end watch entry (Done status) = cond (passes (is_counted_by watch) entry) 1 0
awaited_end watch entry _ = 0
