-- A set-up and a state in which nothing is as anything else, of which the rows speak.
use Rattle.std.specs.Borrow.{Bor}
use Rattle.std.specs.Prelude.{ℕ, Bool, true, false, List, [], ◌∷◌, Option, Some, None}
use Rattle.dsa_regs.specs.declared.{Caps.{Caps}, Command.{Command}, QueueConfig.{QueueConfig}}
use Rattle.dsa_regs.specs.declared.{GroupConfig.{GroupConfig}}
use Rattle.dsa_regs.specs.declared.Command.TheVariants.{DrainPasid}
use Rattle.dsa_regs.specs.declared.{Phase.{TheVariants.{Off, On, Stopping}}}
use Rattle.dsa_store.specs.Content.{HeldEntry}
use Rattle.dsa_book.specs.declared.answer.{NotedError.{NotedError}, Cause.{Cause, TheVariants.{NotEnabled}}}
use Rattle.dsa_book.specs.declared.note.BatchNote.{BatchNote}
use Rattle.dsa_book.specs.State.{Setup, State, opening}
use Rattle.dsa_keys.specs.Short.{ShortKey}

-- two queues, a group and three engines
abbrev pub key_caps : Caps
key_caps = record {
  queues = 2;
  groups = 1;
  engines = 3;
  total_size = 12;
  read_buffers = 16;
  slots = 4;
  max_batch_shift = 5;
  max_xfer_shift = 20;
}

-- a queue that is one client's or not
abbrev pub queue_of_numbers : Bool → QueueConfig
queue_of_numbers dedicated = record {
  size = 21;
  threshold = 22;
  dedicated = dedicated;
  priority = 24;
  pasid = 25;
  max_batch_shift = 26;
  max_xfer_shift = 27;
}

abbrev pub group_of_numbers : GroupConfig
group_of_numbers = record { queues = 31; engines = 32; reserved = 33; allowed = 34 }

-- an error of this cause
abbrev pub noted_for : Cause → Bool → Option NotedError
noted_for cause overflow = Some (record { queue = 7; cause = cause; overflow = overflow })

-- all is configured, and a submission failed
abbrev pub setup_of_numbers : Setup
setup_of_numbers = record {
  caps = key_caps;
  device = On;
  configs = queue_of_numbers true ∷ queue_of_numbers false ∷ [];
  phases = Stopping ∷ Off ∷ [];
  groups = group_of_numbers ∷ [];
  next_name = 9;
  noted = noted_for NotEnabled true;
}

-- the note of a batch of three, of which two were fetched
abbrev pub note_of_numbers : Bool → Bool → Option BatchNote
note_of_numbers failed closed =
    Some (record { batch = 41; count = 3; fetched = 2; failed = failed; closed = closed })

-- a key with these notes and this command alone
abbrev pub key_with : List (Option BatchNote) → Option Command → ShortKey
key_with notes command = record {
  setup = setup_of_numbers;
  lists = [];
  notes = notes;
  waits = (true ∷ false ∷ []) ∷ [];
  command = command;
  awaited = [];
}

-- an entry of queue 1 with this name, operation and PASID, which runs
abbrev pub key_entry : ℕ → ℕ → ℕ → HeldEntry
key_entry name op pasid = (
  record { 0 = 0 },
  record {
    name = name;
    parent = None;
    desc = record { pasid = pasid; flags = 0; op = op; size = 0 };
    queue = 1;
    running = true;
  },
)

-- a No-op with name 2, a Drain with name 4 and a No-op with name 5 are held, all of PASID 6, and a Drain PASID is
-- active that came before the last of them
abbrev pub draining_state : State
draining_state = record {
  work = record (opening key_caps).work {
    content = (key_entry 2 0 6 ∷ key_entry 4 2 6 ∷ []) ∷ (key_entry 5 0 6 ∷ []) ∷ [];
  };
  active = Some (record { command = DrainPasid 6; mark = 5 });
}

-- the labels of the first names
abbrev pub labels_by_name : Bor (List ℕ)
labels_by_name = record { ref_ptr = (0, 0); now = 60 ∷ 61 ∷ 62 ∷ 63 ∷ 64 ∷ [] }
