-- What the engines keep beside the lists, and how it agrees with them.
use Rattle.std.specs.Prelude.{◌≡◌, ℕ, ◌-◌, ◌<◌, ◌≤◌, true, false, Bool, not, ◌&&◌, is_some, cond, List, ◌∷◌, length}
use Rattle.std.specs.Prelude.{map, filter, replicate, get_or, slice_index, slice_set, Option, Some, None, []}
use Rattle.std.specs.List.{AllPairs}
use Rattle.dsa_base.specs.{Rows.{passes}, Numbers.{numbers_below}, Lists.{In}}
use Rattle.dsa_regs.specs.declared.{Caps.{Caps}, layout.ListUse.{ListUse, TheVariants.{Queue, Progress, Members}}}
use Rattle.dsa_regs.specs.{Caps.{engine_of_list}, Config.{check_device}}
use Rattle.dsa_store.specs.{declared.entry.Entry.{Entry}, Content.{HeldEntry, Content, chain, held_count}}
use Rattle.dsa_buffers.specs.Buffers.{Buffers}
use Rattle.dsa_queues.specs.Queues.{IsStoreFor, IsWholeSetup}
use Rattle.dsa_book.specs.declared.{note.BatchNote.{BatchNote}, fate.FateRow.{FateRow}}
use Rattle.dsa_book.specs.State.{Setup, Work, is_off, held_by, is_batch_of, is_member}
use Rattle.dsa_book.specs.Work.{all_used, group_in, progress_list, member_list, batch_on, is_all_fetched}
use Rattle.dsa_book.specs.Work.{note_at, with_note}

-- a note or none for each engine, the read buffers of the groups, and the group of each engine (profile)
pub record EnginesState : Type 0 where
  pub notes : List (Option BatchNote)
  pub buffers : Buffers
  pub homes : List (Option ℕ)

-- what a step of an engine sees and changes (profile)
abbrev pub work : Setup → EnginesState → Content → List FateRow → Work
work setup engines_state content fates =
    record { setup = setup; content = content; notes = engines_state.notes; fates = fates }

-- the lists alone, of which the buffers in use are a sum (profile)
abbrev pub lists_alone : Setup → Content → Work
lists_alone setup content = record { setup = setup; content = content; notes = []; fates = [] }

-- the read buffers of the groups, and how many of them the running entries hold (profile)
abbrev pub buffers_at : Work → Buffers
buffers_at w = record { total = w.setup.caps.read_buffers; groups = w.setup.groups; used = all_used w }

-- those that the running entries of the lists hold (profile)
abbrev pub buffers_of : Setup → Content → Buffers
buffers_of setup content = buffers_at (lists_alone setup content)

-- the read buffers of a device on which nothing runs (profile)
abbrev pub buffers_at_rest : Setup → Buffers
buffers_at_rest setup = record {
  total = setup.caps.read_buffers;
  groups = setup.groups;
  used =
      replicate (length setup.groups) 0;
}

-- the group of each engine (profile)
abbrev pub homes_of : Setup → List (Option ℕ)
homes_of setup = map (group_in setup.groups) (numbers_below setup.caps.engines)

-- what the engines keep before the device is first enabled: no note, no buffers, no group (profile)
abbrev pub engines_at_first : Caps → EnginesState
engines_at_first caps = record {
  notes = replicate caps.engines None;
  buffers = record { total = 0; groups = []; used = [] };
  homes = [];
}

-- what queues, engines and store keep in step (profile)
pub record IsInStep (setup : Setup) (engines_state : EnginesState) (cells : ℕ) (content : Content) : Type 0 where
  -- the queues are whole, and the store is one for their device
  pub queues : IsWholeSetup setup
  pub store : IsStoreFor setup.caps cells content
  -- while the device is Off nothing is held, and else it has passed the check of Enable Device
  pub idle : is_off setup.device ≡ true → held_count content ≡ 0
  pub checked : is_off setup.device ≡ false → check_device setup.caps setup.configs setup.groups ≡ None
  -- each engine has a note or none; while the device is not Off its group is kept, and so are the read buffers in use
  pub notes : length engines_state.notes ≡ setup.caps.engines
  pub homes : is_off setup.device ≡ false → engines_state.homes ≡ homes_of setup
  pub buffers : is_off setup.device ≡ false → engines_state.buffers ≡ buffers_of setup content

-- what stands in a queue's list names that queue, and what stands in an engine's list of members is one (profile)
pub record IsInPlace (setup : Setup) (content : Content) : Type 0 where
  pub queued : (q : ℕ) (pair : HeldEntry) → q < setup.caps.queues → In pair (chain content q) → pair.1.queue ≡ q
  pub members : (e : ℕ) (pair : HeldEntry) → e < setup.caps.engines → In pair (chain content (member_list setup e))
      → is_member pair.1 ≡ true

abbrev pub is_running : HeldEntry → Bool
is_running pair = pair.1.running

-- with n of the group given back; without a group nothing changes
abbrev pub buffers_after_return : Option ℕ → ℕ → Buffers → Buffers
buffers_after_return None n b = b
buffers_after_return (Some g) n b = record b { used = slice_set b.used g (slice_index b.used g - n) }

-- the group is there, and has as many in use
abbrev pub Holds : Option ℕ → ℕ → Buffers → Type 0
Holds None n b = Unit {0}
Holds (Some g) n b = (g < length b.groups) × (n ≤ slice_index b.used g)

-- the read buffers without those of the entry, which stood in a list of that engine; in a queue it held none
abbrev pub buffers_after_removal : Setup → EnginesState → Option ℕ → Entry → Buffers
buffers_after_removal setup engines_state None entry = engines_state.buffers
buffers_after_removal setup engines_state (Some e) entry =
    buffers_after_return (get_or engines_state.homes e None) (held_by setup entry) engines_state.buffers

-- the group of that engine holds them
abbrev pub MayRelease : Setup → EnginesState → Option ℕ → Entry → Type 0
MayRelease setup engines_state None entry = Unit {0}
MayRelease setup engines_state (Some e) entry =
    Holds (get_or engines_state.homes e None) (held_by setup entry) engines_state.buffers

-- the notes without the one of an engine whose list in progress this is
abbrev pub notes_without : ListUse → List (Option BatchNote) → List (Option BatchNote)
notes_without (Queue q) notes = notes
notes_without (Progress e) notes = with_note notes e None
notes_without (Members e) notes = notes

-- what the engines keep once an entry has left such a list: it gives back what it held, and a
-- well-formed Batch in progress takes the engine's note along (profile)
abbrev pub engines_after_removal : Setup → ListUse → Entry → EnginesState → EnginesState
engines_after_removal setup from entry engines_state = record engines_state {
  notes = cond (is_batch_of setup entry) (notes_without from engines_state.notes) engines_state.notes;
  buffers = buffers_after_removal setup engines_state (engine_of_list from) entry;
}

-- the device has the engine, the engine is of the group, and has a slot left
pub record IsOpen (setup : Setup) (content : Content) (e g : ℕ) : Type 0 where
  pub engine : e < setup.caps.engines
  pub home : group_in setup.groups e ≡ Some g
  pub pair : length (chain content (progress_list setup e)) < setup.caps.slots

-- after one that waits, none runs
abbrev pub WaitInOrder : List HeldEntry → Type 0
WaitInOrder [] = Unit {0}
WaitInOrder (pair ∷ rest) = (pair.1.running ≡ false → filter is_running rest ≡ []) × WaitInOrder rest

-- names rise from the front on
abbrev pub NamesRise : List HeldEntry → Type 0
NamesRise = AllPairs (λ earlier later. earlier.1.name < later.1.name)

-- in each queue (profile)
abbrev pub QueuesRise : Setup → Content → Type 0
QueuesRise setup content = (q : ℕ) → q < setup.caps.queues → NamesRise (chain content q)

-- the engine works on a batch with members that are still to be fetched
abbrev pub is_fetching : Work → ℕ → Bool
is_fetching w e = passes (λ note. is_some (batch_on w e note) && not (is_all_fetched note)) (note_at w e)
