-- States that are well formed, and states that are not, of a device whose numbers are all different.
use Rattle.std.specs.Prelude.{ℕ, Bool, true, false, List, [], ◌∷◌, ◌++◌, Option, None, Some, replicate}
use Rattle.dsa_regs.specs.declared.{Caps.{Caps}, GroupConfig.{GroupConfig}, Phase.{Phase, TheVariants.{On}}}
use Rattle.dsa_regs.specs.declared.QueueConfig.{QueueConfig}
use Rattle.dsa_regs.specs.Worked.{shared_queue}
use Rattle.dsa_store.specs.Content.{HeldEntry, Content}
use Rattle.dsa_book.specs.declared.{note.BatchNote.{BatchNote}, fate.Fate.TheVariants.{Completed}}
use Rattle.dsa_book.specs.State.{Setup, Work, State, opening, opening_setup}
use Rattle.dsa_worked.specs.Setup.{no_op, move, batch, held_entry, row}
use Rattle.dsa_worked.specs.Uneven.{many_engines, small_queue, of_these, shifts}

abbrev pub unlike : Caps
unlike = record (shifts 3 9) { queues = 1; groups = 5; engines = 2; total_size = 6; read_buffers = 7; slots = 4 }

-- ---- entries

-- No-ops of queue 0 and of queue 8, each with name 5
abbrev pub that_waits : HeldEntry
that_waits = held_entry 0 5 None no_op 0 false

abbrev pub that_runs : HeldEntry
that_runs = held_entry 0 5 None no_op 8 true

-- a member of batch 3, of queue 8
abbrev pub a_member_of_three : HeldEntry
a_member_of_three = held_entry 0 5 (Some 3) no_op 8 false

-- a batch of two with name 3, of queue 0
abbrev pub batch_three : HeldEntry
batch_three = held_entry 1 3 None (batch 2) 0 true

-- its member, which runs or not
abbrev pub member_of_three : Bool → HeldEntry
member_of_three running = held_entry 2 5 (Some 3) no_op 0 running

-- the note of batch 3, of which one member of two was fetched
abbrev pub note_of_three : BatchNote
note_of_three = record { batch = 3; count = 2; fetched = 1; failed = false; closed = false }

-- ---- lists

-- the entries of these lists, and nothing else
abbrev pub work_of : Setup → Content → Work
work_of setup content = record { setup = setup; content = content; notes = []; fates = [] }

-- an engine more than those that are looked at, which has too much; its queue has two places, the engine 1 so many
-- entries in progress and so many members
abbrev pub work_with_lists : ℕ → ℕ → ℕ → Work
work_with_lists queued progress members =
    work_of
    (record (opening_setup (record unlike { engines = 3 })) {
      configs = record small_queue { threshold = 1 } ∷ [];
    })
    (replicate queued that_waits ∷ (that_runs ∷ []) ∷ replicate progress that_runs ∷ replicate 5 that_runs ∷ [] ∷
    replicate members that_waits ∷ replicate 9 that_waits ∷ [])

-- names 0 and 2 are held, and 1 has ended
abbrev pub work_of_three : Work
work_of_three = record {
  setup = record (opening_setup unlike) { next_name = 3 };
  content = (held_entry 4 2 None no_op 0 false ∷ []) ∷ (held_entry 7 0 None no_op 0 true ∷ []) ∷ [];
  notes = [];
  fates = row 1 None (Completed 1) ∷ [];
}

-- ---- read buffers

-- what is looked at: one group, and four read buffers
abbrev pub four_buffers : Caps
four_buffers = record (shifts 7 8) { queues = 2; groups = 1; engines = 3; total_size = 5; read_buffers = 4; slots = 6 }

-- a group with that engine, which keeps so many read buffers and may have so many
abbrev pub with_buffers : ℕ → ℕ → ℕ → GroupConfig
with_buffers engines reserved allowed = record { queues = 1; engines = engines; reserved = reserved; allowed = allowed }

-- a group that may have so many and keeps so many, and a second group that may have none: each uses two
abbrev pub work_with_buffers : Phase → ℕ → ℕ → Work
work_with_buffers device reserved allowed =
    work_of
    (record
    (opening_setup (record unlike { groups = 2; engines = 2 })) {
      device = device;
      configs = shared_queue ∷ [];
      groups = with_buffers 1 reserved allowed ∷ with_buffers 2 0 0 ∷ [];
    })
    ([] ∷ (held_entry 0 0 None (move 8192) 0 true ∷ []) ∷ (held_entry 1 1 None (move 8192) 0 true ∷ []) ∷ [] ∷ [] ∷ [])

-- ---- set-ups

-- one queue with this configuration, one group with these engines and the queue, in these phases
abbrev pub set_up_in : Phase → Phase → QueueConfig → ℕ → Setup
set_up_in device queue config engines = record (opening_setup many_engines) {
  device = device;
  configs = config ∷ [];
  phases = queue ∷ [];
  groups = of_these 1 engines ∷ [];
}

-- ---- states

-- the state of a new device, with other work
abbrev pub state_of : Work → State
state_of work = record { work = work; active = None }

-- the work of a new device
abbrev pub new_work : Work
new_work = (opening unlike).work

-- an engine of a device that is On, with this note, these entries in progress and these members
abbrev pub work_on_batch : Option BatchNote → List HeldEntry → List HeldEntry → Work
work_on_batch note progress members = record {
  setup = set_up_in On On shared_queue 1;
  content =
      [] ∷ progress ∷ [] ∷ [] ∷ [] ∷ [] ∷ [] ∷ [] ∷ members ∷ [];
  notes = note ∷ [];
  fates = [];
}

-- the device and its queue are On, and of their group is engine 0
abbrev pub one_engine_on : Setup
one_engine_on = set_up_in On On small_queue 1

-- so many names were given; engine 0 has this note; these are in the queue, in progress on the engine, and its members
abbrev pub state_in_use : Setup → ℕ → Option BatchNote → List HeldEntry → List HeldEntry → List HeldEntry → State
state_in_use setup names note queued progress members = state_of (record {
  setup = record setup { next_name = names };
  content = queued ∷ progress ∷ replicate 6 [] ++ members ∷ replicate 6 [];
  notes = note ∷ replicate 6 None;
  fates = [];
})

-- a No-op in the queue, with this cell and name
abbrev pub in_queue : ℕ → ℕ → HeldEntry
in_queue cell name = held_entry cell name None no_op 0 false

-- the note of batch 0 of two members, of which so many were fetched
abbrev pub note_of_nought : ℕ → BatchNote
note_of_nought fetched = record { batch = 0; count = 2; fetched = fetched; failed = false; closed = false }

-- batch 0 is in progress with members 1 and 2, which move so many bytes each and run or wait
abbrev pub state_of_two : Setup → ℕ → Bool → Bool → State
state_of_two setup size first second = state_in_use setup 3 (Some (note_of_nought 2)) []
    (held_entry 0 0 None (batch 2) 0 true ∷ [])
    (held_entry 1 1 (Some 0) (move size) 0 first ∷ held_entry 2 2 (Some 0) (move size) 0 second ∷ [])

-- the same device with long transfers
abbrev pub long_transfers : Caps
long_transfers = record many_engines { max_xfer_shift = 20 }

abbrev pub one_engine_of_long : Setup
one_engine_of_long = record one_engine_on {
  caps = long_transfers;
  configs = record small_queue { max_xfer_shift = 20 } ∷ [];
}
