-- The key of a state: all that says which steps may come, and what they tell by labels.
use Rattle.std.specs.Prelude.{ℕ, Bool, ◌&&◌, List, map, Option, option_map}
use Rattle.dsa_desc.specs.{declared.Descriptor.{Descriptor}, Descriptor.{is_drain}}
use Rattle.dsa_regs.specs.declared.Command.{Command}
use Rattle.dsa_store.specs.{declared.entry.Entry.{Entry}, Content.{HeldEntry, Content, all_held}}
use Rattle.dsa_book.specs.declared.note.{BatchNote.{BatchNote}, ActiveCommand.{ActiveCommand}}
use Rattle.dsa_book.specs.{State.{Setup, State, is_member}, Work.{waits_for}}
use Rattle.dsa_admin.specs.Admin.{is_awaited_by}
use Rattle.dsa_keys.specs.Labels.{Labels, labelled_note}

-- an entry by its label: nothing says its name, its cell or its batch
pub record LabelledEntry : Type 0 where
  pub label : ℕ
  pub desc : Descriptor
  pub queue : ℕ
  pub running : Bool
  pub member : Bool

-- a held entry, by its label
abbrev pub labelled_entry : Labels → HeldEntry → LabelledEntry
labelled_entry labels pair = record {
  label = labels pair.1.name;
  desc = pair.1.desc;
  queue = pair.1.queue;
  running = pair.1.running;
  member = is_member pair.1;
}

-- the set-up, with 0 for the next name
abbrev pub without_next_name : Setup → Setup
without_next_name setup = record setup { next_name = 0 }

-- the first is a Drain by its operation code, and waits for the second
abbrev pub waits_as_drain : Entry → Entry → Bool
waits_as_drain entry other = is_drain entry.desc && waits_for entry other

-- for which held entries each of these waits, in the order in which they are held
abbrev pub waits_of : List HeldEntry → Content → List (List Bool)
waits_of pairs content =
    map (λ (pair : HeldEntry). map (λ (other : HeldEntry). waits_as_drain pair.1 other.1) (all_held content)) pairs

-- what a key keeps of a state: the set-up but for the next name, the entries of each list and the notes by labels, for
-- which held entries each one waits, the active command, and which held entries it waits for (profile); of an entry it
-- keeps what is said of it
pub record KeyOf (Said : Type 0) : Type 0 where
  pub setup : Setup
  pub lists : List (List Said)
  pub notes : List (Option BatchNote)
  pub waits : List (List Bool)
  pub command : Option Command
  pub awaited : List Bool

-- a key with entries by their labels
abbrev pub Key : Type 0
Key = KeyOf LabelledEntry

-- the key of a state
abbrev pub key : Labels → State → Key
key labels s = record {
  setup = without_next_name s.work.setup;
  lists = map (map (labelled_entry labels)) s.work.content;
  notes = map (option_map (labelled_note labels)) s.work.notes;
  waits = waits_of (all_held s.work.content) s.work.content;
  command = option_map (λ (active : ActiveCommand). active.command) s.active;
  awaited = map (λ (pair : HeldEntry). is_awaited_by s.active pair.1) (all_held s.work.content);
}
