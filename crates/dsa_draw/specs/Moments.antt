-- What is read of a device after a step.
use Rattle.std.specs.Prelude.{◌≡◌, ℕ, ◌-◌, ◌^◌, min, cond, length, map, Option, Some, None, option_map, option_and_then, unwrap_or}
use Rattle.std.specs.Prelude.{◌==◌, List, [], ◌∷◌, string_bytes}
use Rattle.std.specs.List.{range_with_len}
use Rattle.dsa_regs.specs.{declared.{Caps.{Caps}, QueueConfig.{QueueConfig}}, Config.{queue_at, group_at}}
use Rattle.dsa_desc.specs.declared.Descriptor.{Descriptor}
use Rattle.dsa_store.specs.Content.{entry_of}
use Rattle.dsa_book.specs.declared.answer.Ticket.{Ticket}
use Rattle.dsa_book.specs.declared.answer.Reply.{Reply, TheVariants.{Dispatch, Fetch}}
use Rattle.dsa_book.specs.declared.answer.{DispatchAnswer.{TheVariants.{Taken}}, FetchAnswer.{TheVariants.{Fetched}}}
use Rattle.dsa_book.specs.declared.event.{Actor.{Actor, TheVariants.{Engine}}}
use Rattle.dsa_book.specs.{State.{occupancy, phase_at}, Work.{used, note_at}, Totals.{actor_of}}
use Rattle.dsa_device.specs.Running.{Running}
use Rattle.dsa_scenario.specs.{declared.run.Record.{Record, TheVariants.{Stepped, Refused}}, Run.{answered_by}}
use Rattle.dsa_explain_lines.specs.Parts.{part_of}
use Rattle.dsa_named.specs.{Names.{Own}, Notes.{names_note}, Steps.{NamedVisit}}
use Rattle.dsa_named_lines.specs.Lines.{named_in}
use Rattle.dsa_draw.specs.declared.moment.{Level.{Level}, Moment.{Moment}}
use Rattle.dsa_draw.specs.declared.moment.BandKind.{BandKind, TheVariants.{Queue, Group}}

-- so much is filled, or nothing where that is not known, of what has this mark and this limit
abbrev pub level_with : Option ℕ → ℕ → ℕ → Level
level_with filled mark limit = record { filled = unwrap_or filled 0; mark = mark; limit = limit; phase = None }

-- the threshold of a queue; a dedicated one ignores it, and has no mark
abbrev pub queue_mark : QueueConfig → ℕ
queue_mark config = cond config.dedicated 0 config.threshold

-- the occupancy of a queue, its threshold, its size and its phase
abbrev pub queue_level_of : Running → ℕ → Level
queue_level_of d queue = record {
  filled = occupancy d.state.work.content queue;
  mark = queue_mark (queue_at d.state.work.setup.configs queue);
  limit = (queue_at d.state.work.setup.configs queue).size;
  phase = Some (phase_at d.state.work.setup queue);
}

-- the read buffers of a group that are used, reserved and allowed
abbrev pub group_level_of : Running → ℕ → Level
group_level_of d group = record {
  filled = used d.state.work group;
  mark = (group_at d.state.work.setup.groups group).reserved;
  limit = (group_at d.state.work.setup.groups group).allowed;
  phase = None;
}

-- the level of a queue or of a group
abbrev pub level_of : Running → BandKind → ℕ → Level
level_of d Queue queue = queue_level_of d queue
level_of d Group group = group_level_of d group

-- how many queues or groups the device has
abbrev pub band_count : Caps → BandKind → ℕ
band_count caps Queue = caps.queues
band_count caps Group = caps.groups

-- the batch on the engine of this actor
abbrev pub batch_of_actor : Running → Actor → Option ℕ
batch_of_actor d (Engine engine) = option_map (λ note. note.batch) (note_at d.state.work engine)
batch_of_actor d _ = None

-- the batch that the engine works on whose step this was
abbrev pub batch_after : Running → Record → Option ℕ
batch_after d (Stepped step) = batch_of_actor d (actor_of step.event)
batch_after d (Refused fault) = None

-- the ticket of the entry that the answer brought to an engine
abbrev pub ticket_brought : Reply → Option Ticket
ticket_brought (Dispatch (Taken ticket queue)) = Some ticket
ticket_brought (Fetch (Fetched ticket)) = Some ticket
ticket_brought _ = None

-- the descriptor of that entry, with the PASID that the device gave it
abbrev pub desc_in : Running → Option Ticket → Option Descriptor
desc_in d ticket =
    option_and_then (λ ticket. option_map (λ entry. entry.desc) (entry_of d.state.work.content ticket.cell)) ticket

abbrev pub desc_brought : Running → Record → Option Descriptor
desc_brought d (Stepped step) = desc_in d (ticket_brought step.reply)
desc_brought d (Refused fault) = None

-- the own name that an entry has among these
abbrev pub own_name_of : ℕ → List Own → Option (List ℕ)
own_name_of name [] = None
own_name_of name (own ∷ names) = cond (own.0 == name) (Some own.1) (own_name_of name names)

-- the own name of the entry that a step brought to an engine (profile)
abbrev pub own_of_ticket : List Own → Option Ticket → Option (List ℕ)
own_of_ticket names ticket = option_and_then (λ ticket. own_name_of ticket.name names) ticket

abbrev pub own_brought : List Own → Record → Option (List ℕ)
own_brought names (Stepped step) = own_of_ticket names (ticket_brought step.reply)
own_brought names (Refused fault) = None

-- the levels of all queues or of all groups, by number
abbrev pub all_levels : Running → BandKind → List Level
all_levels d kind = map (level_of d kind) (range_with_len 0 (band_count d.caps kind))

-- the moment has the number and the record of the step, why the device before it answers so, the own names that its
-- line mentions and that of the entry that it brought to an engine, and what the device after it says of itself
pub record IsMomentOf (named : NamedVisit) (moment : Moment) : Type 0 where
  pub number : moment.number ≡ min named.step.number (2 ^ 32 - 1)
  pub of_entry : moment.entry ≡ named.step.entry
  pub reason : string_bytes moment.reason ≡ part_of named.step.before (answered_by named.step.entry)
  pub note : string_bytes moment.note ≡ names_note (named_in named.names named.step.entry named.step.after.state)
  pub phase : moment.phase ≡ named.step.after.state.work.setup.device
  pub queues : moment.queues.items ≡ all_levels named.step.after Queue
  pub groups : moment.groups.items ≡ all_levels named.step.after Group
  pub batch : moment.batch ≡ batch_after named.step.after named.step.entry
  pub desc : moment.desc ≡ desc_brought named.step.after named.step.entry
  pub own : option_map string_bytes moment.own ≡ own_brought named.names named.step.entry
  pub ended : moment.ended ≡ length named.step.after.state.work.fates
