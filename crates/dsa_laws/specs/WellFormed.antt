-- What holds in every state that a history leads to, from the lists themselves to the batches that engines work on.
use Rattle.std.specs.Prelude.{◌≡◌, ℕ, ◌+◌, ◌^◌, ◌<◌, ◌≤◌, ◌==◌, ◌&&◌, Bool, true, false, cond, not, List, [], ◌∷◌}
use Rattle.std.specs.{Prelude.{length, count_by, Option, Some, None, is_some, ⊤}, List.{AllPairs}}
use Rattle.dsa_desc.specs.Descriptor.{pasid_of}
use Rattle.dsa_regs.specs.declared.Caps.{Caps}
use Rattle.dsa_regs.specs.{Caps.{cell_count, first_members, list_count}, Config.{queue_at, check_device, check_queue}}
use Rattle.dsa_store.specs.declared.entry.Cell.{Cell}
use Rattle.dsa_store.specs.Content.{HeldEntry, chain, use_count, held_count, all_held}
use Rattle.dsa_book.specs.{Work.{in_progress, members, note_at}, declared.note.BatchNote.{BatchNote}}
use Rattle.dsa_book.specs.State.{Setup, Work, State, phase_at, is_on, is_off, occupancy}
use Rattle.dsa_laws.specs.{Lists.{EachAt}, Buffering.{HasBuffers}, Engines.{HasLawfulEngines}}

-- ---- the lists, their cells and their names

-- what is configured is as the capabilities say; each queue has a list and each engine has two, and
-- a note or none (profile)
pub record HasShape (caps : Caps) (w : Work) : Type 0 where
  pub same_caps : w.setup.caps ≡ caps
  pub lists : length w.content ≡ list_count caps
  pub configs : length w.setup.configs ≡ caps.queues
  pub phases : length w.setup.phases ≡ caps.queues
  pub groups : length w.setup.groups ≡ caps.groups
  pub notes : length w.notes ≡ caps.engines

-- no cell stands twice in the lists, and only cells of the store stand there (profile)
pub record CellsOnce (caps : Caps) (w : Work) : Type 0 where
  pub once : (cell : Cell) → use_count w.content cell ≤ 1
  pub inside : (cell : Cell) → cell_count caps ≤ cell.0 → use_count w.content cell ≡ 0

-- how many held entries have the name (profile)
abbrev pub held_named : Work → ℕ → ℕ
held_named w name = count_by (λ pair. pair.1.name == name) (all_held w.content)

-- how many fate rows have the name (profile)
abbrev pub fates_named : Work → ℕ → ℕ
fates_named w name = count_by (λ row. row.name == name) w.fates

-- a name that was given is one held entry's or one fate row's, and any other is none's; there are
-- so many as were given (profile)
pub record NamesOnce (w : Work) : Type 0 where
  pub given : (name : ℕ) → name < w.setup.next_name → held_named w name + fates_named w name ≡ 1
  pub not_given : (name : ℕ) → w.setup.next_name ≤ name → held_named w name + fates_named w name ≡ 0
  pub counted : held_count w.content + length w.fates ≡ w.setup.next_name

-- ---- the device and its queues

-- a queue is enabled, or still stopping, only while the device is, and what is not disabled has no fault (profile)
pub record HasLawfulSetup (setup : Setup) : Type 0 where
  pub phases : (queue : ℕ) → is_off (phase_at setup queue) ≡ false → is_off setup.device ≡ false
  pub on : (queue : ℕ) → is_on (phase_at setup queue) ≡ true → is_on setup.device ≡ true
  pub device : is_off setup.device ≡ false → check_device setup.caps setup.configs setup.groups ≡ None
  pub queue : (queue : ℕ) → is_off (phase_at setup queue) ≡ false
      → check_queue setup.caps setup.groups queue (queue_at setup.configs queue) ≡ None

-- ---- the entries

-- what the list of an entry says of it (profile)
pub record IsPlaced (caps : Caps) (list : ℕ) (pair : HeldEntry) : Type 0 where
  -- in a queue, it names that queue and does not run
  pub queue : list < caps.queues → pair.1.queue ≡ list
  pub waiting : list < caps.queues → pair.1.running ≡ false
  -- in progress on an engine, it runs
  pub running : caps.queues ≤ list → list < first_members caps → pair.1.running ≡ true
  -- in both it has no parent, and in an engine's list of members it has one
  pub submitted : list < first_members caps → pair.1.parent ≡ None
  pub member : first_members caps ≤ list → is_some pair.1.parent ≡ true

-- no entry names a queue that is Off (profile)
abbrev pub NoneOff : Work → Type 0
NoneOff w = EachAt (λ list pair. is_off (phase_at w.setup pair.1.queue) ≡ false) w.content

-- the PASID of an entry is no longer than a PASID (Intel DSA: descriptor format)
abbrev pub PasidsFit : Work → Type 0
PasidsFit w = EachAt (λ list pair. pasid_of pair.1.desc.pasid ≡ pair.1.desc.pasid) w.content

-- what every entry is (profile)
pub record HasLawfulEntries (caps : Caps) (w : Work) : Type 0 where
  pub placed : EachAt (IsPlaced caps) w.content
  pub none_off : NoneOff w
  pub pasids : PasidsFit w

-- ---- the queues

-- the earlier has the lower name
abbrev pub IsOlder : HeldEntry → HeldEntry → Type 0
IsOlder earlier later = earlier.1.name < later.1.name

-- entries stand in their queue in the order in which they were accepted (profile)
abbrev pub QueuesInOrder : Caps → Work → Type 0
QueuesInOrder caps w = (queue : ℕ) → queue < caps.queues → AllPairs IsOlder (chain w.content queue)

-- ---- the limits

-- no queue holds more than its size, and no engine more in progress than it has slots, or more
-- members than a batch may have (profile)
pub record IsWithinLimits (caps : Caps) (w : Work) : Type 0 where
  pub queues : (queue : ℕ) → queue < caps.queues → occupancy w.content queue ≤ (queue_at w.setup.configs queue).size
  pub slots : (engine : ℕ) → engine < caps.engines → length (in_progress w engine) ≤ caps.slots
  pub members : (engine : ℕ) → engine < caps.engines → length (members w engine) ≤ 2 ^ caps.max_batch_shift

-- ---- the batches

-- none of these runs
abbrev pub none_runs : List HeldEntry → Bool
none_runs [] = true
none_runs (pair ∷ rest) = not pair.1.running && none_runs rest

-- those that run stand before all others
abbrev pub runs_first : List HeldEntry → Bool
runs_first [] = true
runs_first (pair ∷ rest) = cond pair.1.running (runs_first rest) (none_runs rest)

-- members start in their order: those that run stand first (profile)
abbrev pub MembersInOrder : Work → Type 0
MembersInOrder w = (engine : ℕ) → runs_first (members w engine) ≡ true

-- no more was fetched than the batch has members, and these are no more than a batch may have (profile)
pub record IsWithinBatch (caps : Caps) (note : BatchNote) : Type 0 where
  pub fetched : note.fetched ≤ note.count
  pub count : note.count ≤ 2 ^ caps.max_batch_shift

-- a note, if there is one, is within its batch (profile)
abbrev pub NoteFits : Caps → Option BatchNote → Type 0
NoteFits caps None = ⊤
NoteFits caps (Some note) = IsWithinBatch caps note

-- the note of each engine is within its batch (profile)
abbrev pub NotesFit : Caps → Work → Type 0
NotesFit caps w = (engine : ℕ) → NoteFits caps (note_at w engine)

-- ---- the whole

-- what always holds (profile)
pub record IsWellFormed (caps : Caps) (s : State) : Type 0 where
  -- the lists and their cells; each name once
  pub shape : HasShape caps s.work
  pub cells : CellsOnce caps s.work
  pub names : NamesOnce s.work
  -- the device and its queues; each entry by its list
  pub setup : HasLawfulSetup s.work.setup
  pub entries : HasLawfulEntries caps s.work
  -- each queue in order; occupancy, entries, members, and read buffers
  pub rising : QueuesInOrder caps s.work
  pub limits : IsWithinLimits caps s.work
  pub buffers : HasBuffers caps s.work
  -- the batch of each engine, its note, and its members in their order
  pub engines : HasLawfulEngines s.work
  pub notes : NotesFit caps s.work
  pub order : MembersInOrder s.work
