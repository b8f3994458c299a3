-- Worlds of a device with three queues, two engines and one group, of which the rows say what steps tell; a list of
-- rows; and parties that do nothing.
use Rattle.std.specs.Prelude.{ℕ, false, List, [], ◌∷◌, Option, Some, None}
use Rattle.dsa_regs.specs.declared.{Caps.{Caps}, Command.{Command}}
use Rattle.dsa_store.specs.Content.{HeldEntry, Content}
use Rattle.dsa_book.specs.declared.answer.{Reply.{TheVariants.{Poll}}, PollAnswer.TheVariants.{Nothing}}
use Rattle.dsa_book.specs.declared.{note.ActiveCommand.{ActiveCommand}, fate.{Fate.{Fate}, FateRow.{FateRow}}}
use Rattle.dsa_book.specs.State.{opening}
use Rattle.dsa_keys.specs.Parties.{Parties, World}
use Rattle.dsa_explore.specs.declared.found.{Ask.{Ask, TheVariants.{Act}}, Found.{Found}}
use Rattle.dsa_explore.specs.declared.found.Finding.TheVariants.{Answer, Wait}
use Rattle.dsa_explore.specs.Rows.{labels_of}

-- ---- worlds

-- three queues, two engines and one group: their lists are 0 to 2, 3 and 4, and 5 and 6 for members
abbrev pub uneven_caps : Caps
uneven_caps = record {
  queues = 3;
  groups = 1;
  engines = 2;
  total_size = 12;
  read_buffers = 16;
  slots = 4;
  max_batch_shift = 5;
  max_xfer_shift = 20;
}

-- a No-op of queue 2 with this name, which is a member if it has a parent
abbrev pub no_op_named : ℕ → Option ℕ → HeldEntry
no_op_named name parent = (
  record { 0 = name },
  record {
    name = name;
    parent = parent;
    desc = record { pasid = 0; flags = 0; op = 0; size = 0 };
    queue = 2;
    running = false;
  },
)

-- entry 1 waits, engine 0 works on batch 0 with its member 2, and entry 3 is in progress on engine 1
abbrev pub lists_with_four : Content
lists_with_four =
    [] ∷ [] ∷ (no_op_named 1 None ∷ []) ∷ (no_op_named 0 None ∷ []) ∷ (no_op_named 3 None ∷ []) ∷
    (no_op_named 2 (Some 0) ∷ []) ∷ [] ∷ []

-- the command is active from the name on that would be the third
abbrev pub active_from_three : Command → Option ActiveCommand
active_from_three command = Some (record { command = command; mark = 3 })

-- the labels of names 0 to 3 are 20, 10, 21 and 30; where these entries are held, a command is active or none, and
-- these have ended
abbrev pub world_holding : Content → Option ActiveCommand → List FateRow → World ℕ
world_holding content active fates = record {
  places = 0;
  labels = labels_of (20 ∷ 10 ∷ 21 ∷ 30 ∷ []);
  state = record (opening uneven_caps) {
    work = record (opening uneven_caps).work { content = content; fates = fates };
    active = active;
  };
}

-- four entries are held there, and these have ended
abbrev pub quiet_world : List FateRow → World ℕ
quiet_world fates = world_holding lists_with_four None fates

-- the same where this command is active
abbrev pub waiting_world : Command → World ℕ
waiting_world command = world_holding lists_with_four (active_from_three command) []

-- an entry of this name ended so
abbrev pub ended_so : ℕ → Option ℕ → Fate → FateRow
ended_so name parent fate = record { name = name; parent = parent; fate = fate }

-- ---- rows

-- a wait of act 2 after three steps, and its answer after two
abbrev pub two_rows : List Found
two_rows =
    record { finding = Wait 2 10; steps = 3 } ∷ record { finding = Answer (Act 2) (Poll Nothing); steps = 2 } ∷ []

-- ---- parties that do nothing

abbrev pub idle_parties : Parties ℕ ℕ
idle_parties = record { offer = λ place seen move. None; moved = λ place move sight. place }

-- a key that all worlds have
abbrev pub one_key : World ℕ → List ℕ
one_key w = 7 ∷ []

-- one who asks for nothing
abbrev pub asking_nothing : ℕ → ℕ → Option Ask
asking_nothing place move = None
