-- The state of the written machine, by what each layer of the device keeps (profile).
use Rattle.std.specs.{Prelude.{None, is_some, []}, List.{list_any}}
use Rattle.std.specs.Prelude.{ℕ, Bool, true, false, cond, ◌&&◌, ◌==◌, nat_lt, List, length, replicate, get_or, Option}
use Rattle.dsa_desc.specs.Descriptor.{need, status, is_lawful_batch, is_lawful_drain}
use Rattle.dsa_desc.specs.declared.{Outcome.{Outcome}, QueueLimits.{QueueLimits}}
use Rattle.dsa_regs.specs.Caps.{list_count}
use Rattle.dsa_regs.specs.declared.{Phase.{Phase, TheVariants.{Off, On}}, QueueConfig.{QueueConfig}, Caps.{Caps}}
use Rattle.dsa_regs.specs.Config.{zero_queue, zero_group, queue_at, limits_of_queue}
use Rattle.dsa_regs.specs.declared.GroupConfig.{GroupConfig}
use Rattle.dsa_store.specs.{declared.entry.Entry.{Entry}, Content.{HeldEntry, Content, chain, all_held, is_cell}}
use Rattle.dsa_book.specs.declared.answer.{Ticket.{Ticket}, NotedError.{NotedError}}
use Rattle.dsa_book.specs.declared.{note.{BatchNote.{BatchNote}, ActiveCommand.{ActiveCommand}}, fate.FateRow.{FateRow}}

-- what is configured: capabilities, phases and configurations, the next name and the noted error (profile)
pub record Setup : Type 0 where
  pub caps : Caps
  pub device : Phase
  pub configs : List QueueConfig
  pub phases : List Phase
  pub groups : List GroupConfig
  pub next_name : ℕ
  pub noted : Option NotedError

-- what a submission sees and changes: the set-up, and the entries of all lists (profile)
pub record Intake : Type 0 where
  pub setup : Setup
  pub content : Content

-- what an engine's step sees and changes: a note for each engine that works on a batch, and the
-- fates of what ended (profile)
pub record Work : Type 0 where
  pub setup : Setup
  pub content : Content
  pub notes : List (Option BatchNote)
  pub fates : List FateRow

-- the whole: the work, and the command that is not over (profile)
pub record State : Type 0 where
  pub work : Work
  pub active : Option ActiveCommand

-- all zero and Off, and no name is given yet (profile)
abbrev pub opening_setup : Caps → Setup
opening_setup caps = record {
  caps = caps;
  device = Off;
  configs = replicate caps.queues zero_queue;
  phases = replicate caps.queues Off;
  groups = replicate caps.groups zero_group;
  next_name = 0;
  noted = None;
}

-- a device before its first step: nothing is held, noted or active (profile)
abbrev pub opening : Caps → State
opening caps = record {
  work = record {
    setup = opening_setup caps;
    content = replicate (list_count caps) [];
    notes = replicate caps.engines None;
    fates = [];
  };
  active = None;
}

-- ---- phases

-- whether the device or a queue is enabled
abbrev pub is_on : Phase → Bool
is_on On = true
is_on _ = false

-- whether the device or a queue is disabled
abbrev pub is_off : Phase → Bool
is_off Off = true
is_off _ = false

-- a queue that the device does not have is Off (profile)
abbrev pub phase_at : Setup → ℕ → Phase
phase_at setup q = get_or setup.phases q Off

-- the device has the queues below the number of its capabilities (profile)
abbrev pub has_queue : Setup → ℕ → Bool
has_queue setup q = nat_lt q setup.caps.queues

-- ---- entries, with the limits of their queue

-- a member is a descriptor inside a batch, and the name of the batch is its parent; any other entry
-- was submitted (profile)
abbrev pub is_member : Entry → Bool
is_member entry = is_some entry.parent

-- the limits of a queue (profile)
abbrev pub limits_at : Setup → ℕ → QueueLimits
limits_at setup q = limits_of_queue (queue_at setup.configs q)

-- how many read buffers an entry takes while it runs, by the limits of its queue (profile)
abbrev pub need_of : Setup → Entry → ℕ
need_of setup entry = need entry.desc (limits_at setup entry.queue) (is_member entry)

-- how many read buffers an entry holds: while it runs what it takes, and else none (profile)
abbrev pub held_by : Setup → Entry → ℕ
held_by setup entry = cond entry.running (need_of setup entry) 0

-- the status that an entry completes with, by the limits of its queue (profile)
abbrev pub status_of_entry : Setup → Entry → Outcome → ℕ
status_of_entry setup entry outcome = status entry.desc (limits_at setup entry.queue) (is_member entry) outcome

-- whether an entry is a well-formed Batch, by the limits of its queue (profile)
abbrev pub is_batch_of : Setup → Entry → Bool
is_batch_of setup entry = is_lawful_batch entry.desc (limits_at setup entry.queue) (is_member entry)

-- whether an entry is a well-formed Drain, by the limits of its queue (profile)
abbrev pub is_drain_of : Setup → Entry → Bool
is_drain_of setup entry = is_lawful_drain entry.desc (limits_at setup entry.queue) (is_member entry)

-- ---- lists and names

-- the entries that wait in the queue; one that an engine has taken is not counted (profile)
abbrev pub occupancy : Content → ℕ → ℕ
occupancy content q = length (chain content q)

-- whether an entry that passes stands in the list
abbrev pub any_in : (Entry → Bool) → List HeldEntry → Bool
any_in test pairs = list_any (λ pair. test pair.1) pairs

-- whether an entry that passes is held
abbrev pub holds_any : (Entry → Bool) → Content → Bool
holds_any test content = any_in test (all_held content)

-- the ticket of an entry is its cell and its name (profile)
abbrev pub ticket_of_entry : HeldEntry → Ticket
ticket_of_entry pair = record { cell = pair.0; name = pair.1.name }

-- whether a ticket is the entry's: both the cell and the name are (profile)
abbrev pub is_ticket : Ticket → HeldEntry → Bool
is_ticket ticket pair = is_cell ticket.cell pair && pair.1.name == ticket.name
