-- What a step that may come does: one case for each kind of effect, with all that the step tested.
use Rattle.std.specs.Prelude.{◌≡◌, ◌⊎◌, ℕ, true, false, not, ◌&&◌, ◌==◌, nat_le, nat_lt, find, slice_set}
use Rattle.std.specs.{Prelude.{Option, Some, None}, Bool.{beq}}
use Rattle.dsa_desc.specs.{declared.{Descriptor.{Descriptor}, Outcome.{Outcome}}, Descriptor.{is_fenced}}
use Rattle.dsa_regs.specs.declared.{Phase.{Phase, TheVariants.{Off, On, Stopping}}, QueueConfig.{QueueConfig}}
use Rattle.dsa_regs.specs.declared.{GroupConfig.{GroupConfig}, Scope.{Scope, TheVariants.{Device, Queue}}}
use Rattle.dsa_regs.specs.declared.{Deed.{Deed, TheVariants.{Enable, Disable, Drain, Abort, Reset}}, Command.{Command}}
use Rattle.dsa_regs.specs.{Caps.{cell_count}, Config.{queue_at}, Command.{deed_of, scope_of, number_of_command}}
use Rattle.dsa_store.specs.{declared.entry.Cell.{Cell}, Content.{HeldEntry, is_free}}
use Rattle.dsa_book.specs.Submit.{limit_of, after_accept, is_movdir64b, next_noted}
use Rattle.dsa_book.specs.Work.{after_end, is_front, has_failed_member, first_waiting, has_room, after_start}
use Rattle.dsa_book.specs.Work.{after_abandon, running_on, must_wait, front_of, qualifies, after_take, note_at, batch_on}
use Rattle.dsa_book.specs.{Work.{is_all_fetched, after_fetch}, Machine.{with_work, with_intake, state_with_setup}}
use Rattle.dsa_book.specs.{Machine.{intake_of}, declared.answer.Cause.{Cause}}
use Rattle.dsa_book.specs.declared.{answer.{NotedError.{NotedError}, Ticket.{Ticket}}, note.BatchNote.{BatchNote}}
use Rattle.dsa_book.specs.declared.{note.ActiveCommand.{ActiveCommand}, event.Portal.{Portal}}
use Rattle.dsa_book.specs.declared.event.Kind.{Kind, TheVariants.{Movdir64b}}
use Rattle.dsa_book.specs.State.{is_ticket, Setup, State, is_on, is_off, phase_at, has_queue, occupancy, need_of}
use Rattle.dsa_book.specs.Commands.{after_abort, reset, work_with_setup, is_at_end, with_device, with_phases, after_stop}
use Rattle.dsa_book.specs.Commands.{may_come, is_bad_queues, check_of}
use Rattle.dsa_laws.specs.Refusals.{IsRefused}

-- ---- entries

-- a descriptor comes to a queue that is On and below the limit of the portal, with a free cell (profile)
pub record IsAccepted (s s' : State) : Type 0 where
  pub queue : ℕ
  pub portal : Portal
  pub kind : Kind
  pub desc : Descriptor
  pub cell : Cell
  pub on : is_on (phase_at s.work.setup queue) ≡ true
  pub of_kind : beq (is_movdir64b kind) (queue_at s.work.setup.configs queue).dedicated ≡ true
  pub below : nat_le (limit_of (queue_at s.work.setup.configs queue) portal) (occupancy s.work.content queue) ≡ false
  pub free : is_free (cell_count s.work.setup.caps) s.work.content cell ≡ true
  pub after : with_intake s (after_accept (intake_of s) queue kind desc cell).1 ≡ s'

-- an engine takes the front of a queue for which it qualifies (Intel DSA: any engine of a group
-- takes from any work queue of the group; when it qualifies is the profile's)
pub record IsTaken (s s' : State) : Type 0 where
  pub engine : ℕ
  pub queue : ℕ
  pub front : HeldEntry
  pub is_front : front_of s.work queue ≡ Some front
  pub qualifies : qualifies s.work engine queue ≡ true
  pub after : with_work s (after_take s.work engine queue front) ≡ s'

-- an engine fetches the next member of its batch, with a free cell (profile)
pub record IsFetched (s s' : State) : Type 0 where
  pub engine : ℕ
  pub desc : Descriptor
  pub cell : Cell
  pub note : BatchNote
  pub batch : HeldEntry
  pub is_note : note_at s.work engine ≡ Some note
  pub is_batch : batch_on s.work engine note ≡ Some batch
  pub more : is_all_fetched note ≡ false
  pub free : is_free (cell_count s.work.setup.caps) s.work.content cell ≡ true
  pub after : with_work s (after_fetch s.work engine desc cell note batch.1).1 ≡ s'

-- the first member that waits begins to run: its read buffers fit, and with a fence it stands
-- before all others and none has failed (Intel DSA: fence; the read buffers are the profile's)
pub record IsStarted (s s' : State) : Type 0 where
  pub engine : ℕ
  pub pair : HeldEntry
  pub is_first : first_waiting s.work engine ≡ Some pair
  pub first_of_all : (is_fenced pair.1.desc && not (is_front s.work engine pair)) ≡ false
  pub unfailed : (is_fenced pair.1.desc && has_failed_member s.work engine) ≡ false
  pub room : has_room s.work engine (need_of s.work.setup pair.1) ≡ true
  pub after : with_work s (after_start s.work engine) ≡ s'

-- the members from the first that waits on are abandoned: it has a fence, all before it have ended, and one of them
-- failed (Intel DSA: fence)
pub record IsAbandoned (s s' : State) : Type 0 where
  pub engine : ℕ
  pub pair : HeldEntry
  pub is_first : first_waiting s.work engine ≡ Some pair
  pub first_of_all : (is_fenced pair.1.desc && not (is_front s.work engine pair)) ≡ false
  pub failed : (is_fenced pair.1.desc && has_failed_member s.work engine) ≡ true
  pub after : with_work s (after_abandon s.work engine) ≡ s'

-- an entry that runs ends: a batch after its members, a Drain after what it waits for (profile)
pub record IsEnded (s s' : State) : Type 0 where
  pub engine : ℕ
  pub ticket : Ticket
  pub outcome : Outcome
  pub pair : HeldEntry
  pub is_found : find (is_ticket ticket) (running_on s.work engine) ≡ Some pair
  pub ready : must_wait s.work engine pair.1 ≡ false
  pub after : with_work s (after_end s.work engine pair outcome) ≡ s'

-- ---- commands

-- a command with this deed and this scope is not refused: none is active, its queues are there, the device and they
-- are in the phases that it needs, and the configuration passes its check (profile)
pub record IsGranted (s : State) (deed : Deed) (scope : Scope) : Type 0 where
  pub idle : s.active ≡ None
  pub queues : is_bad_queues s.work.setup scope ≡ false
  pub phases : may_come s.work.setup deed scope ≡ true
  pub check : check_of s.work.setup deed scope ≡ None

-- a disable or a drain is issued, and waits for what came before it (profile)
pub record IsBegun (s : State) (active : ActiveCommand) : Type 0 where
  pub deed : (deed_of active.command ≡ Disable) ⊎ (deed_of active.command ≡ Drain)
  pub granted : IsGranted s (deed_of active.command) (scope_of active.command)
  pub mark : s.work.setup.next_name ≡ active.mark

-- the state with this set-up and this active command (profile)
abbrev pub set_up : State → Option ActiveCommand → Setup → State
set_up s active setup = record { work = record s.work { setup = setup }; active = active }

-- what the active command disables comes to this phase (profile)
abbrev pub stopped : Phase → ActiveCommand → Setup → Setup
stopped phase active = after_stop (deed_of active.command) (scope_of active.command) phase

-- Enable Device (profile)
pub record IsDeviceEnabled (s s' : State) : Type 0 where
  pub granted : IsGranted s Enable Device
  pub after : set_up s None (with_device On s.work.setup) ≡ s'

-- Enable WQ (profile)
pub record IsQueueEnabled (s s' : State) : Type 0 where
  pub queue : ℕ
  pub granted : IsGranted s Enable (Queue queue)
  pub after : set_up s None (with_phases (λ each. each == queue) On s.work.setup) ≡ s'

-- a disable or a drain begins while something is held that it waits for: what it disables is Stopping (profile)
pub record IsWaiting (s s' : State) : Type 0 where
  pub active : ActiveCommand
  pub begun : IsBegun s active
  pub held : is_at_end active s.work.content ≡ false
  pub after : set_up s (Some active) (stopped Stopping active s.work.setup) ≡ s'

-- a disable or a drain that begins, or that is active, is over: nothing is held that it waits for, and what it
-- disables is Off (profile)
pub record IsOver (s s' : State) : Type 0 where
  pub active : ActiveCommand
  pub begun : IsBegun s active ⊎ (s.active ≡ Some active)
  pub over : is_at_end active s.work.content ≡ true
  pub after : set_up s None (stopped Off active s.work.setup) ≡ s'

-- the entries in the scope of an abort are aborted (profile)
pub record IsAborted (s s' : State) : Type 0 where
  pub command : Command
  pub deed : deed_of command ≡ Abort
  pub granted : IsGranted s Abort (scope_of command)
  pub after : with_work s (after_abort (number_of_command command) (scope_of command) s.work) ≡ s'

-- the entries in the scope of a reset are aborted, and its queues or the whole set-up are reset (profile)
pub record IsReset (s s' : State) : Type 0 where
  pub command : Command
  pub deed : deed_of command ≡ Reset
  pub granted : IsGranted s Reset (scope_of command)
  pub after : with_work s (work_with_setup (after_abort (number_of_command command) (scope_of command) s.work)
      (reset (scope_of command) s.work.setup)) ≡ s'

-- ---- configuration and the noted error

-- a queue that is Off is configured, its size only while the device is Off (profile)
pub record IsQueueWritten (s s' : State) : Type 0 where
  pub queue : ℕ
  pub config : QueueConfig
  pub has : has_queue s.work.setup queue ≡ true
  pub off : is_off (phase_at s.work.setup queue) ≡ true
  pub size : (not (is_off s.work.setup.device) && not (config.size == (queue_at s.work.setup.configs queue).size))
      ≡ false
  pub after : state_with_setup s (record s.work.setup { configs = slice_set s.work.setup.configs queue config }) ≡ s'

-- a group is configured while the device is Off (profile)
pub record IsGroupWritten (s s' : State) : Type 0 where
  pub group : ℕ
  pub config : GroupConfig
  pub has : nat_lt group s.work.setup.caps.groups ≡ true
  pub off : is_off s.work.setup.device ≡ true
  pub after : state_with_setup s (record s.work.setup { groups = slice_set s.work.setup.groups group config }) ≡ s'

-- a MOVDIR64B that its queue turns away is dropped, and noted with its cause (profile)
pub record IsNoted (s s' : State) : Type 0 where
  pub queue : ℕ
  pub portal : Portal
  pub cause : Cause
  pub refused : IsRefused s.work queue portal Movdir64b cause
  pub after : state_with_setup s
      (record s.work.setup { noted = Some (next_noted s.work.setup.noted queue cause) }) ≡ s'

-- the noted error is read and cleared (profile)
pub record IsCleared (s s' : State) : Type 0 where
  pub noted : NotedError
  pub is_noted : s.work.setup.noted ≡ Some noted
  pub after : state_with_setup s (record s.work.setup { noted = None }) ≡ s'

-- what a step that may come does: nothing, or one of these (profile)
pub data Change (s s' : State) : Type 0 where
  same : s ≡ s' → Change s s'
  is_noted : IsNoted s s' → Change s s'
  is_cleared : IsCleared s s' → Change s s'
  is_accepted : IsAccepted s s' → Change s s'
  is_taken : IsTaken s s' → Change s s'
  is_fetched : IsFetched s s' → Change s s'
  is_started : IsStarted s s' → Change s s'
  is_abandoned : IsAbandoned s s' → Change s s'
  is_ended : IsEnded s s' → Change s s'
  is_device_enabled : IsDeviceEnabled s s' → Change s s'
  is_queue_enabled : IsQueueEnabled s s' → Change s s'
  is_waiting : IsWaiting s s' → Change s s'
  is_over : IsOver s s' → Change s s'
  is_aborted : IsAborted s s' → Change s s'
  is_reset : IsReset s s' → Change s s'
  is_queue_written : IsQueueWritten s s' → Change s s'
  is_group_written : IsGroupWritten s s' → Change s s'
