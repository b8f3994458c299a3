-- States in which a step may come, with the numbers of queues, engines, cells and names apart.
use Rattle.std.specs.Prelude.{ℕ, false, true, List, [], ◌∷◌, Option, None, Some}
use Rattle.dsa_regs.specs.Worked.{caps, smallest, queues, first_group}
use Rattle.dsa_regs.specs.{declared.Phase.{Phase, TheVariants.{Off, On}}, Config.{zero_group}}
use Rattle.dsa_regs.specs.declared.{Command.{Command}, GroupConfig.{GroupConfig}, QueueConfig.{QueueConfig}}
use Rattle.dsa_store.specs.Content.{Content, HeldEntry}
use Rattle.dsa_book.specs.declared.note.BatchNote.{BatchNote}
use Rattle.dsa_book.specs.declared.event.Kind.{Kind}
use Rattle.dsa_book.specs.{Machine.{intake_of, with_intake, with_work}, Submit.{after_accept}}
use Rattle.dsa_book.specs.State.{Setup, State, Work, opening_setup}
use Rattle.dsa_engines.specs.Engines.{EnginesState}
use Rattle.dsa_worked.specs.Changes.{none_held}
use Rattle.dsa_worked.specs.Setup.{no_op, move, batch, fenced, held_entry}

-- both queues and both engines are of one group, in these phases; nine names were given
abbrev pub one_group_in : Phase → List Phase → Setup
one_group_in device phases = record (opening_setup caps) {
  device = device;
  configs = queues;
  phases = phases;
  groups = record first_group { queues = 3; engines = 3 } ∷ zero_group ∷ [];
  next_name = 9;
}

-- of these lists and notes, with no active command
abbrev pub state_over : Setup → Content → List (Option BatchNote) → State
state_over setup content notes = record {
  work = record { setup = setup; content = content; notes = notes; fates = [] };
  active = None;
}

-- the device and its queues are On
abbrev pub state_on : Content → List (Option BatchNote) → State
state_on = state_over (one_group_in On (On ∷ On ∷ []))

-- a device with one queue
abbrev pub another_device : State
another_device = state_over (record (one_group_in On []) { caps = smallest }) [] []

-- a note of engine 1, on batch 3, which failed or not
abbrev pub notes_of : BatchNote → List (Option BatchNote)
notes_of note = None ∷ Some note ∷ []

abbrev pub note_open : BatchNote
note_open = record { batch = 3; count = 4; fetched = 2; failed = false; closed = false }

abbrev pub note_failed : BatchNote
note_failed = record note_open { failed = true }

-- entry 4 waits in queue 1 or runs
abbrev pub four_waits : HeldEntry
four_waits = held_entry 6 4 None no_op 1 false

abbrev pub in_second_queue : Content
in_second_queue = [] ∷ (four_waits ∷ []) ∷ [] ∷ [] ∷ [] ∷ [] ∷ []

abbrev pub on_first_engine : Content
on_first_engine = [] ∷ [] ∷ (held_entry 6 4 None no_op 1 true ∷ []) ∷ [] ∷ [] ∷ [] ∷ []

-- batch 3 on engine 1, and these members of it
abbrev pub batch_of_four : HeldEntry
batch_of_four = held_entry 5 3 None (batch 4) 0 true

abbrev pub with_members : List HeldEntry → Content
with_members members = [] ∷ [] ∷ [] ∷ (batch_of_four ∷ []) ∷ [] ∷ members ∷ []

-- a state in which engine 1 works on batch 3 with these members and this note
abbrev pub on_batch : List HeldEntry → BatchNote → State
on_batch members note = state_on (with_members members) (notes_of note)

-- members that run, that wait, and that wait with a fence
abbrev pub six_runs : HeldEntry
six_runs = held_entry 2 6 (Some 3) (move 4096) 0 true

abbrev pub seven_waits : HeldEntry
seven_waits = held_entry 4 7 (Some 3) no_op 0 false

abbrev pub seven_moves : HeldEntry
seven_moves = held_entry 4 7 (Some 3) (move 8192) 0 false

abbrev pub seven_with_fence : HeldEntry
seven_with_fence = held_entry 4 7 (Some 3) (fenced no_op) 0 false

-- of two cells one has batch 3, which runs on engine 1, and one its member
abbrev pub two_cells_in_use : State
two_cells_in_use =
    state_over
    (record (one_group_in On (On ∷ On ∷ [])) {
      caps = record caps { total_size = 0; slots = 0; max_batch_shift = 0 };
    })
    ([] ∷ [] ∷ [] ∷ (held_entry 0 3 None (batch 4) 0 true ∷ []) ∷ [] ∷ (held_entry 1 6 (Some 3) no_op 0 true ∷ []) ∷ [])
    (notes_of note_open)

-- queue 1 alone is On, and nothing is held
abbrev pub on_the_second : State
on_the_second = state_over (one_group_in On (Off ∷ On ∷ [])) none_held []

-- a device that is Off and has no queues, or no groups, with these configurations
abbrev pub without_queues : List QueueConfig → State
without_queues configs =
    state_over (record (one_group_in Off []) { caps = record caps { queues = 0 }; configs = configs }) [] []

abbrev pub without_groups : List GroupConfig → State
without_groups groups =
    state_over (record (one_group_in Off []) { caps = record caps { groups = 0 }; groups = groups }) [] []

-- ---- effects

-- the effect may come in this state, and changes its work so
abbrev pub ChangesWork : (State → State → Type 0) → (Work → Work) → State → Type 0
ChangesWork effect change s = effect s (with_work s (change s.work))

-- the state after a No-op comes to this queue, in cell 3
abbrev pub after_no_op_in : ℕ → Kind → State → State
after_no_op_in queue kind s = with_intake s (after_accept (intake_of s) queue kind no_op (record { 0 = 3 })).1

-- the state in which this command is active, for all that nine names were given to
abbrev pub waiting_for : Command → State → State
waiting_for command s = record s { active = Some (record { command = command; mark = 9 }) }

-- ---- engines

-- engine 1 is of group 0 and has this note; nothing uses read buffers
abbrev pub engines_with : BatchNote → EnginesState
engines_with note = record {
  notes = notes_of note;
  buffers = record { total = 16; groups = first_group ∷ zero_group ∷ []; used = 0 ∷ 0 ∷ [] };
  homes = None ∷ Some 0 ∷ [];
}
