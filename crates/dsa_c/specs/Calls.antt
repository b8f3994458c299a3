-- What the calls do to the device behind a handle.
use Rattle.dsa_book.specs.declared.event.Event.TheVariants as event
use Rattle.dsa_book.specs.declared.answer.Reply.TheVariants as reply
use Rattle.std.specs.Prelude.{◌≡◌, ◌≢◌, ℕ, Bool, true, false, ◌==◌, cond, List, length, slice_get, Option, None, Some}
use Rattle.std.specs.Prelude.{IsSomeAnd, option_map, Result, Ok, Err}
use Rattle.dsa_desc.specs.declared.{Outcome.{Outcome, TheVariants.{Success, PageFault}}, Descriptor.{Descriptor}}
use Rattle.dsa_desc.specs.declared.QueueLimits.{QueueLimits}
use Rattle.dsa_desc.specs.Descriptor.{read, status}
use Rattle.dsa_regs.specs.declared.{QueueConfig.{QueueConfig}, GroupConfig.{GroupConfig}, Command.{Command}}
use Rattle.dsa_regs.specs.declared.Fault.{Fault}
use Rattle.dsa_book.specs.declared.answer.{Reply.{Reply}, DispatchAnswer.{DispatchAnswer, TheVariants.{Full}}}
use Rattle.dsa_book.specs.{Choice.{choice_of, from_queue}, Work.{qualifies}}
use Rattle.dsa_book.specs.declared.event.{Event.{Event}, Kind.{Kind}}
use Rattle.dsa_book.specs.declared.event.Portal.{Portal, TheVariants.{Limited, Unlimited}}
use Rattle.dsa_device.specs.Running.{Running, after_answer}
use Rattle.dsa_book.specs.declared.fate.FateRow.{FateRow}
use Rattle.dsa_c.specs.declared.{answer.{Answer.{Answer}, Ending.{Ending}}, words.DeviceLimits.{DeviceLimits}}
use Rattle.dsa_c.specs.declared.steps.{DeviceQueue.{DeviceQueue}, DeviceGroup.{DeviceGroup}}
use Rattle.dsa_c.specs.Answers.{answer_of, no_device, bad_argument, refusal_answer, noted_answer, step_answer}
use Rattle.dsa_c.specs.Answers.{answer_from_queue, ending_of}
use Rattle.dsa_c.specs.Place.{HeldDevice}
use Rattle.dsa_c.specs.declared.numbers.TheConstants.{LIMITED, UNLIMITED, SUCCESS, PAGE_FAULT, NONE}

-- the device behind a handle made exactly this step, and the answer is its reply's; a handle of no device stays one
abbrev pub IsStep : HeldDevice → Event → Answer → HeldDevice → Type 0
IsStep None event answer after = (answer ≡ no_device) × (after ≡ None)
IsStep (Some machine) event answer after =
    IsSomeAnd after (λ then. (reply : Reply)
    × ((answer ≡ answer_of reply) × (after_answer machine.device event reply ≡ Some then.device)))

-- a call that may come with a wrong number: then it is answered as one, and changes nothing
abbrev pub IsCall : HeldDevice → Option Event → Answer → HeldDevice → Type 0
IsCall before None answer after = (answer ≡ bad_argument) × (after ≡ before)
IsCall before (Some event) answer after = IsStep before event answer after

-- a word that is written to the command register: the step of its command, or, where it is no command, its refusal
abbrev pub IsIssue : Result Command Fault → HeldDevice → Answer → HeldDevice → Type 0
IsIssue (Ok command) before answer after = IsStep before (event.Issue command) answer after
IsIssue (Err fault) before answer after = (answer ≡ refusal_answer fault) × (after ≡ before)

-- a dispatch from a queue: an answer that the machine allows and that, unless the history has no room, took from that
-- queue; or none, where the queue does not qualify, and nothing changed
abbrev pub IsDispatchFrom : Running → ℕ → ℕ → Option DispatchAnswer → Running → Type 0
IsDispatchFrom before engine queue None after =
    (qualifies before.state.work engine queue ≡ false) × ((length before.history ≢ before.capacity) × (after ≡ before))
IsDispatchFrom before engine queue (Some answer) after =
    (after_answer before (event.Dispatch engine) (reply.Dispatch answer) ≡ Some after)
    × (answer ≢ Full → choice_of (reply.Dispatch answer) ≡ from_queue queue)

-- the device behind a handle was asked for a dispatch from a queue; a handle of no device stays one
abbrev pub IsStepFrom : ℕ → ℕ → HeldDevice → Answer → HeldDevice → Type 0
IsStepFrom engine queue None answer after = (answer ≡ no_device) × (after ≡ None)
IsStepFrom engine queue (Some machine) answer after =
    IsSomeAnd after (λ then. (found : Option DispatchAnswer)
    × ((answer ≡ answer_from_queue found) × IsDispatchFrom machine.device engine queue found then.device))

-- ---- numbers of arguments

abbrev pub portal_from_c : ℕ → Option Portal
portal_from_c number = cond (number == LIMITED) (Some Limited) (cond (number == UNLIMITED) (Some Unlimited) None)

abbrev pub outcome_from_c : ℕ → Option Outcome
outcome_from_c number = cond (number == SUCCESS) (Some Success) (cond (number == PAGE_FAULT) (Some PageFault) None)

abbrev pub bit_of : ℕ → Option Bool
bit_of number = cond (number == 0) (Some false) (cond (number == 1) (Some true) None)

abbrev pub group_from_c : DeviceGroup → GroupConfig
group_from_c group = record {
  queues = group.queues;
  engines = group.engines;
  reserved = group.reserved;
  allowed =
      group.allowed;
}

abbrev pub queue_from_c : DeviceQueue → Bool → QueueConfig
queue_from_c queue dedicated = record {
  size = queue.size;
  threshold = queue.threshold;
  dedicated = dedicated;
  priority = queue.priority;
  pasid = queue.pasid;
  max_batch_shift = queue.max_batch_shift;
  max_xfer_shift = queue.max_xfer_shift;
}

-- ---- events of calls with numbers that may be wrong

abbrev pub submission_from_c : ℕ → ℕ → ℕ → Kind → List ℕ → Option Event
submission_from_c client queue portal kind bytes =
    option_map (λ portal. event.Submit client queue portal kind (read bytes)) (portal_from_c portal)

abbrev pub finishing : ℕ → ℕ → ℕ → ℕ → Option Event
finishing engine cell name outcome =
    option_map (λ outcome. event.Finish engine (record { cell = record { 0 = cell }; name = name }) outcome)
    (outcome_from_c outcome)

abbrev pub queue_write : ℕ → DeviceQueue → Option Event
queue_write queue config = option_map (λ dedicated. event.WriteQueue queue (queue_from_c config dedicated))
    (bit_of config.dedicated)

-- ---- reads

-- a read of what lies behind a handle, which stays as it was
abbrev pub IsReadAs : {X : Type 0} → (HeldDevice → X) → HeldDevice → X → HeldDevice → Type 0
IsReadAs read before answer after = (answer ≡ read before) × (after ≡ before)

-- a number that may not be there
abbrev pub or_none : Option ℕ → ℕ
or_none None = NONE
or_none (Some number) = number

-- what the device behind a handle says, where there is one and it is not silent
abbrev pub asked_for : {X : Type 0} → (Running → Option X) → HeldDevice → Option X
asked_for f None = None
asked_for f (Some machine) = f machine.device

-- the number that it says
abbrev pub number_told_for : (Running → Option ℕ) → HeldDevice → ℕ
number_told_for f before = or_none (asked_for f before)

-- the number that each device says
abbrev pub number_told : (Running → ℕ) → HeldDevice → ℕ
number_told f = number_told_for (λ d. Some (f d))

-- the row that it says, or that there is none
abbrev pub ending_for : (Running → Option FateRow) → HeldDevice → Ending
ending_for f before = ending_of (asked_for f before)

-- the noted error of the device behind a handle
abbrev pub noted_of : HeldDevice → Answer
noted_of None = no_device
noted_of (Some machine) = noted_answer machine.device.state.work.setup.noted

-- the answer of the stored step at a position, the first one at 0
abbrev pub reply_at : ℕ → HeldDevice → Answer
reply_at position None = no_device
reply_at position (Some machine) = step_answer (slice_get machine.device.history position)

-- ---- descriptors

abbrev pub limits_from_c : DeviceLimits → QueueLimits
limits_from_c limits = record { max_batch_shift = limits.max_batch_shift; max_xfer_shift = limits.max_xfer_shift }

-- the status after an outcome, 0 where there is none
abbrev pub status_after_outcome : Descriptor → QueueLimits → Bool → Option Outcome → ℕ
status_after_outcome desc limits member None = 0
status_after_outcome desc limits member (Some outcome) = status desc limits member outcome
