-- A short key: where a label says what its entry is, the key need not.
use Rattle.std.specs.Prelude.{◌≡◌, ℕ, Bool, true, false, List, map, filter, Some, ⊤}
use Rattle.dsa_base.specs.Lists.{In}
use Rattle.dsa_desc.specs.{declared.Descriptor.{Descriptor}, Descriptor.{with_pasid, is_drain}}
use Rattle.dsa_regs.specs.{declared.Caps.{Caps}, Config.{queue_at}}
use Rattle.dsa_store.specs.Content.{HeldEntry, all_held}
use Rattle.dsa_book.specs.declared.event.{Kind.{Kind}, Event.{Event, TheVariants.{Submit, Fetch}}}
use Rattle.dsa_book.specs.declared.{note.BatchNote.{BatchNote}, answer.Reply.{Reply}}
use Rattle.dsa_book.specs.{State.{Setup, State}, Submit.{pasid_by}, Work.{note_at}}
use Rattle.dsa_keys.specs.Key.{LabelledEntry, labelled_entry, waits_of, KeyOf, key}
use Rattle.dsa_keys.specs.{Labels.{Labels}, Steps.{HasSameStep}}

-- what a label says of an entry: its descriptor, its queue, how it is submitted, and whether it is a member, which has
-- the queue of its batch and is submitted as its batch is
pub record Description : Type 0 where
  pub desc : Descriptor
  pub queue : ℕ
  pub kind : Kind
  pub member : Bool

-- a description for each label
abbrev pub Descriptions : Type 0
Descriptions = ℕ → Description

-- the entry with this label, by its description and by what is configured
abbrev pub described_entry : Descriptions → Setup → ℕ → Bool → LabelledEntry
described_entry described setup label running = record {
  label = label;
  desc = with_pasid (described label).desc
      (pasid_by (described label).kind (queue_at setup.configs (described label).queue));
  queue = (described label).queue;
  running = running;
  member = (described label).member;
}

-- each held entry is as its label says
abbrev pub IsDescribed : Descriptions → Labels → State → Type 0
IsDescribed described labels s = (pair : HeldEntry) → In pair (all_held s.work.content)
    → labelled_entry labels pair ≡ described_entry described s.work.setup (labels pair.1.name) pair.1.running

-- an entry that the event brings in is as the label of the next name says
abbrev pub BringsDescribed : Descriptions → Labels → State → Event → Type 0
BringsDescribed described labels s (Submit client queue portal kind desc) =
    described (labels s.work.setup.next_name) ≡ record { desc = desc; queue = queue; kind = kind; member = false }
BringsDescribed described labels s (Fetch engine desc) = (note : BatchNote) → note_at s.work engine ≡ Some note
    → described (labels s.work.setup.next_name) ≡ record {
      desc = desc;
      queue = (described (labels note.batch)).queue;
      kind = (described (labels note.batch)).kind;
      member = true;
    }
BringsDescribed described labels s event = ⊤

-- an entry by its label alone, and whether it runs
pub record ShortEntry : Type 0 where
  pub label : ℕ
  pub running : Bool

-- a held entry so
abbrev pub short_entry : Labels → HeldEntry → ShortEntry
short_entry labels pair = record { label = labels pair.1.name; running = pair.1.running }

-- a key with short entries
abbrev pub ShortKey : Type 0
ShortKey = KeyOf ShortEntry

-- the key with this said of its entries, and for which entries these wait
abbrev pub saying : {A B : Type 0} → KeyOf A → List (List B) → List (List Bool) → KeyOf B
saying k lists waits = record {
  setup = k.setup;
  lists = lists;
  notes = k.notes;
  waits = waits;
  command = k.command;
  awaited = k.awaited;
}

-- the entries that are Drains by their operation code
abbrev pub drains_among : List HeldEntry → List HeldEntry
drains_among pairs = filter (λ (pair : HeldEntry). is_drain pair.1.desc) pairs

-- the short key of a state, where Drains alone say for which entries they wait
abbrev pub short_key : Labels → State → ShortKey
short_key labels s = saying (key labels s) (map (map (short_entry labels)) s.work.content)
    (waits_of (drains_among (all_held s.work.content)) s.work.content)

-- the same step, which leaves equal short keys, and entries that are as their labels say
pub record HasSameShortStep (caps : Caps) (described : Descriptions) (labels others : Labels) (s s' t : State)
    (event : Event) (reply : Reply) : Type 0 where
  pub step : HasSameStep caps labels others s s' t event reply
  pub keys : short_key labels s' ≡ short_key others step.t'
  pub left : IsDescribed described labels s'
  pub right : IsDescribed described others step.t'
