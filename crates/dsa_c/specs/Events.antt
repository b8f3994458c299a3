-- The events of the history, for C.
use Rattle.std.specs.Prelude.{◌≡◌, ℕ, ◌+◌, ◌*◌, ◌^◌, ◌==◌, nat_lt, cond, ⊤, List, [], ◌∷◌, Option, None, Some}
use Rattle.std.specs.Prelude.{option_map, option_and_then, slice_get, Result, Ok, Err}
use Rattle.dsa_base.specs.Rows.{first_row}
use Rattle.dsa_desc.specs.declared.{Outcome.{Outcome, TheVariants.{Success, PageFault}}, Descriptor.{Descriptor}}
use Rattle.dsa_regs.specs.declared.{QueueConfig.{QueueConfig}, GroupConfig.{GroupConfig}}
use Rattle.dsa_regs.specs.Command.{number_of_command, scope_of, operand_of_scope, command_of, word_of}
use Rattle.dsa_regs.specs.declared.{Command.{Command}, Fault.{Fault}}
use Rattle.dsa_book.specs.declared.answer.Ticket.{Ticket}
use Rattle.dsa_book.specs.declared.event.Portal.{Portal, TheVariants.{Limited, Unlimited}}
use Rattle.dsa_book.specs.declared.event.Kind.{Kind, TheVariants.{Enqcmd, Movdir64b}}
use Rattle.dsa_book.specs.declared.event.Event.{Event}
use Rattle.dsa_book.specs.declared.event.Event.TheVariants.{Submit, Dispatch, Fetch, Start, Finish, Issue, Poll}
use Rattle.dsa_book.specs.declared.event.Event.TheVariants.{WriteQueue, WriteGroup, ClearError}
use Rattle.dsa_device.specs.Running.{Running}
use Rattle.dsa_c.specs.Calls.{finishing, portal_from_c}
use Rattle.dsa_c.specs.declared.events.DeviceEvent.{DeviceEvent}
use Rattle.dsa_c.specs.declared.numbers.TheConstants.{LIMITED, UNLIMITED, SUCCESS, PAGE_FAULT}
use Rattle.dsa_c.specs.declared.numbers.TheConstants.{EVENT_ENQCMD, EVENT_MOVDIR64B, EVENT_DISPATCH, EVENT_FETCH}
use Rattle.dsa_c.specs.declared.numbers.TheConstants.{EVENT_START, EVENT_FINISH, EVENT_COMMAND, EVENT_POLL, EVENT_WRITE_QUEUE}
use Rattle.dsa_c.specs.declared.numbers.TheConstants.{EVENT_WRITE_GROUP, EVENT_CLEAR_ERROR}

abbrev pub portal_number : Portal → ℕ
portal_number Limited = LIMITED
portal_number Unlimited = UNLIMITED

abbrev pub outcome_number : Outcome → ℕ
outcome_number Success = SUCCESS
outcome_number PageFault = PAGE_FAULT

-- an event of this kind, of which nothing more is said
abbrev pub of_kind : ℕ → DeviceEvent
of_kind kind = record {
  kind = kind;
  name = 0;
  cell = 0;
  pasid = 0;
  flags = 0;
  size = 0;
  operand = 0;
  descriptor_pasid = 0;
  client = 0;
  queue = 0;
  group = 0;
  engine = 0;
  operation = 0;
  portal = 0;
  outcome = 0;
  command = 0;
}

abbrev pub of_engine : ℕ → ℕ → DeviceEvent
of_engine kind engine = record (of_kind kind) { engine = engine }

-- the event with what the device reads of its descriptor
abbrev pub with_descriptor : Descriptor → DeviceEvent → DeviceEvent
with_descriptor desc event = record event {
  operation = desc.op;
  flags = desc.flags;
  size = desc.size;
  descriptor_pasid = desc.pasid;
}

abbrev pub of_instruction : Kind → DeviceEvent
of_instruction (Enqcmd pasid) = record (of_kind EVENT_ENQCMD) { pasid = pasid }
of_instruction Movdir64b = of_kind EVENT_MOVDIR64B

abbrev pub of_finish : ℕ → Ticket → Outcome → DeviceEvent
of_finish engine ticket outcome =
    record (of_engine EVENT_FINISH engine) {
      name = ticket.name;
      cell = ticket.cell.0;
      outcome = outcome_number outcome;
    }

-- what each event of the machine is to C
abbrev pub event_for_c : Event → DeviceEvent
event_for_c (Submit client queue portal kind desc) =
    record (with_descriptor desc (of_instruction kind)) {
      client = client;
      queue = queue;
      portal = portal_number portal;
    }
event_for_c (Dispatch engine) = of_engine EVENT_DISPATCH engine
event_for_c (Fetch engine desc) = with_descriptor desc (of_engine EVENT_FETCH engine)
event_for_c (Start engine) = of_engine EVENT_START engine
event_for_c (Finish engine ticket outcome) = of_finish engine ticket outcome
event_for_c (Issue command) =
    record (of_kind EVENT_COMMAND) {
      command = number_of_command command;
      operand = operand_of_scope (scope_of command);
    }
event_for_c Poll = of_kind EVENT_POLL
event_for_c (WriteQueue queue config) = record (of_kind EVENT_WRITE_QUEUE) { queue = queue }
event_for_c (WriteGroup group config) = record (of_kind EVENT_WRITE_GROUP) { group = group }
event_for_c ClearError = of_kind EVENT_CLEAR_ERROR

-- the event of the stored step at a position, the first one at 0
abbrev pub event_at : ℕ → Running → Option Event
event_at position d = option_map (λ step. step.event) (slice_get d.history position)

-- the configuration that an event writes to a queue
abbrev pub queue_written : Event → Option QueueConfig
queue_written (WriteQueue queue config) = Some config
queue_written _ = None

abbrev pub group_written : Event → Option GroupConfig
group_written (WriteGroup group config) = Some config
group_written _ = None

-- ---- what an event for C asks for

abbrev pub descriptor_from_c : DeviceEvent → Descriptor
descriptor_from_c event = record {
  pasid = event.descriptor_pasid;
  flags = event.flags;
  op = event.operation;
  size = event.size;
}

-- a submission by this instruction, where the number of its portal is one
abbrev pub submission_said : Kind → DeviceEvent → Option Event
submission_said kind event =
    option_map (λ portal. Submit event.client event.queue portal kind (descriptor_from_c event))
    (portal_from_c event.portal)

abbrev pub finish_said : DeviceEvent → Option Event
finish_said event = finishing event.engine event.cell event.name event.outcome

-- the command of a word, if it is one
abbrev pub issue_of : Result Command Fault → Option Event
issue_of (Ok command) = Some (Issue command)
issue_of (Err fault) = None

-- the command with this number and operand, where the operand has no more than its 20 bits
abbrev pub command_said : DeviceEvent → Option Event
command_said event =
    cond (nat_lt event.operand (2 ^ 20)) (issue_of (command_of (2 ^ 20 * event.command + event.operand))) None

-- the event that C describes, by its kind; none of another kind, or that writes a configuration
abbrev pub event_from_c : DeviceEvent → Option Event
event_from_c event = option_and_then (λ said. said) (first_row (
    (event.kind == EVENT_ENQCMD, submission_said (Enqcmd event.pasid) event) ∷
    (event.kind == EVENT_MOVDIR64B, submission_said Movdir64b event) ∷
    (event.kind == EVENT_DISPATCH, Some (Dispatch event.engine)) ∷
    (event.kind == EVENT_FETCH, Some (Fetch event.engine (descriptor_from_c event))) ∷
    (event.kind == EVENT_START, Some (Start event.engine)) ∷
    (event.kind == EVENT_FINISH, finish_said event) ∷
    (event.kind == EVENT_COMMAND, command_said event) ∷
    (event.kind == EVENT_POLL, Some Poll) ∷
    (event.kind == EVENT_CLEAR_ERROR, Some ClearError) ∷ []))

-- it writes a configuration, or is a command of which there is no word
abbrev pub IsWrite : Event → Type 0
IsWrite (WriteQueue queue config) = ⊤
IsWrite (WriteGroup group config) = ⊤
IsWrite (Issue command) = word_of command ≡ None
IsWrite _ = ⊥
