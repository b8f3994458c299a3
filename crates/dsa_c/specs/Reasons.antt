-- The reason of an answer as numbers, for C: a kind for each sentence, and the numbers in it.
use Rattle.dsa_book.specs.declared.event.Event.TheVariants as event
use Rattle.dsa_book.specs.declared.fate.Fate.TheVariants as fate
use Rattle.dsa_queues.specs.declared.reasons.SubmitReason.TheVariants as submit
use Rattle.dsa_queues.specs.declared.reasons.ClearReason.TheVariants as clear
use Rattle.dsa_engines.specs.declared.reasons.EngineReason.TheVariants as engine
use Rattle.dsa_engines.specs.declared.reasons.QueueReason.TheVariants as queue
use Rattle.dsa_engines.specs.declared.reasons.FetchReason.TheVariants as fetch
use Rattle.dsa_engines.specs.declared.reasons.StartReason.TheVariants as start
use Rattle.dsa_engines.specs.declared.reasons.FinishReason.TheVariants as finish
use Rattle.dsa_explain.specs.declared.done.DoneReason.TheVariants as done
use Rattle.dsa_admin.specs.declared.reasons.IssueReason.TheVariants as issue
use Rattle.dsa_admin.specs.declared.reasons.PollReason.TheVariants as poll
use Rattle.dsa_regs.specs.declared.reasons.CheckReason.TheVariants as check
use Rattle.dsa_regs.specs.declared.reasons.Named.TheVariants as named
use Rattle.dsa_regs.specs.declared.reasons.Bound.TheVariants as bound
use Rattle.dsa_regs.specs.declared.layout.ListUse.TheVariants as list
use Rattle.dsa_c.specs.declared.kinds.TheConstants as kind
use Rattle.std.specs.Prelude.{ℕ, ◌==◌, nat_lt, min, cond, Bool, true, false, length, Option, Some, None, option_map}
use Rattle.dsa_buffers.specs.declared.want.BufferWant.{BufferWant}
use Rattle.dsa_desc.specs.declared.Outcome.{Outcome}
use Rattle.dsa_regs.specs.declared.{Command.{Command}, layout.ListUse.{ListUse}}
use Rattle.dsa_regs.specs.declared.Deed.{Deed, TheVariants.{Abort, Reset}}
use Rattle.dsa_regs.specs.declared.reasons.{CheckReason.{CheckReason}, Named.{Named}, Bound.{Bound}}
use Rattle.dsa_regs.specs.Command.{deed_of, number_of_command, operand_of_scope, scope_of}
use Rattle.dsa_store.specs.Content.{count_where}
use Rattle.dsa_book.specs.declared.{event.Event.{Event}, answer.Ticket.{Ticket}, fate.Fate.{Fate}}
use Rattle.dsa_book.specs.{State.{State, Work}, Work.{front_of, qualifies}, Commands.{is_in_scope}, Machine.{intake_of}}
use Rattle.dsa_queues.specs.declared.reasons.{SubmitReason.{SubmitReason}, ClearReason.{ClearReason}}
use Rattle.dsa_queues.specs.{Submission.{submit_reason}, Write.{clear_reason}}
use Rattle.dsa_engines.specs.declared.reasons.{EngineReason.{EngineReason}, QueueReason.{QueueReason}}
use Rattle.dsa_engines.specs.declared.reasons.{FetchReason.{FetchReason}, StartReason.{StartReason}}
use Rattle.dsa_engines.specs.declared.reasons.FinishReason.{FinishReason}
use Rattle.dsa_engines.specs.{Dispatch.{engine_reason, queue_reason}, Finish.{finish_reason}}
use Rattle.dsa_engines.specs.Batch.{name_of_entry, fetch_reason, start_reason}
use Rattle.dsa_admin.specs.declared.reasons.{IssueReason.{IssueReason}, PollReason.{PollReason}}
use Rattle.dsa_admin.specs.Command.{issue_reason, poll_reason}
use Rattle.dsa_device.specs.Running.{Running}
use Rattle.dsa_explain.specs.declared.{held.ListedEntry.{ListedEntry}, done.DoneReason.{DoneReason}}
use Rattle.dsa_explain.specs.declared.awaiting.WaitReason.{WaitReason}
use Rattle.dsa_explain.specs.{Held.{awaited_entry}, Wait.{wait_reason}, Done.{done_reason}}
use Rattle.dsa_explain_lines.specs.Parts.{any_reason, fate_named, is_of_cell}
use Rattle.dsa_c.specs.declared.reason.DeviceReason.{DeviceReason}
use Rattle.dsa_c.specs.declared.numbers.TheConstants.{LIST_NONE, LIST_QUEUE, LIST_ENGINE, LIST_BATCH}
use Rattle.dsa_c.specs.{Events.{portal_number}, Reads.{phase_number}, Why.{is_taking}}

-- ---- what several reasons have

-- the largest number of 32 bits for each that has more
abbrev pub in_32_bits : ℕ → ℕ
in_32_bits number = min number 4294967295

-- a reason of this kind, of which nothing more is said
abbrev pub reason_of_kind : ℕ → DeviceReason
reason_of_kind kind = record {
  kind = kind;
  queue = 0;
  group = 0;
  engine = 0;
  list = LIST_NONE;
  name = 0;
  other = 0;
  count = 0;
  limit = 0;
  needed = 0;
  in_use = 0;
  buffers = 0;
  kept = 0;
  phase = 0;
  device_phase = 0;
  portal = 0;
  command = 0;
  operand = 0;
  operation = 0;
  status = 0;
  shift = 0;
}

abbrev pub reason_of_queue : ℕ → ℕ → DeviceReason
reason_of_queue kind q = record (reason_of_kind kind) { queue = q }

abbrev pub reason_of_engine : ℕ → ℕ → DeviceReason
reason_of_engine kind e = record (reason_of_kind kind) { engine = e }

abbrev pub reason_of_group : ℕ → ℕ → DeviceReason
reason_of_group kind group = record (reason_of_kind kind) { group = in_32_bits group }

abbrev pub reason_of_name : ℕ → ℕ → DeviceReason
reason_of_name kind name = record (reason_of_kind kind) { name = name }

-- so many, of so many that there may be
abbrev pub with_counts : ℕ → ℕ → DeviceReason → DeviceReason
with_counts count limit reason = record reason { count = count; limit = limit }

-- the numbers by which read buffers do not fit a group
abbrev pub with_want : BufferWant → DeviceReason → DeviceReason
with_want want reason = record (with_counts want.used want.allowed reason) {
  group = want.group;
  needed = want.asked;
  in_use = want.in_use;
  buffers = want.buffers;
  kept = want.kept;
}

-- the list in which an entry is
abbrev pub in_list : ListUse → DeviceReason → DeviceReason
in_list (list.Queue q) reason = record reason { list = LIST_QUEUE; queue = q }
in_list (list.Progress e) reason = record reason { list = LIST_ENGINE; engine = e }
in_list (list.Members e) reason = record reason { list = LIST_BATCH; engine = e }

-- ---- submissions

-- of the queue
abbrev pub submit_numbers : ℕ → SubmitReason → DeviceReason
submit_numbers q (submit.NotEnabled device None) = reason_of_queue kind.NO_SUCH_QUEUE q
submit_numbers q (submit.NotEnabled device (Some phase)) =
    record (reason_of_queue kind.QUEUE_NOT_ON q) {
      phase = phase_number phase;
      device_phase = phase_number device;
    }
submit_numbers q (submit.WrongKind true) = reason_of_queue kind.QUEUE_DEDICATED q
submit_numbers q (submit.WrongKind false) = reason_of_queue kind.QUEUE_SHARED q
submit_numbers q (submit.AtLimit occupancy limit portal) =
    record (with_counts occupancy limit (reason_of_queue kind.PORTAL_AT_LIMIT q)) { portal = portal_number portal }

-- ---- engines

-- of the engine
abbrev pub engine_numbers : ℕ → EngineReason → DeviceReason
engine_numbers e engine.NoEngine = reason_of_engine kind.NO_SUCH_ENGINE e
engine_numbers e engine.NoGroup = reason_of_engine kind.ENGINE_WITHOUT_GROUP e

-- the front of a queue, by its name
abbrev pub front_numbers : ℕ → ℕ → ℕ → DeviceReason
front_numbers kind q name = record (reason_of_queue kind q) { name = name }

-- of the queue and the name at its front
abbrev pub queue_numbers : ℕ → ℕ → QueueReason → DeviceReason
queue_numbers q name queue.Empty = reason_of_queue kind.QUEUE_EMPTY q
queue_numbers q name (queue.NoSlot used slots) = with_counts used slots (front_numbers kind.NO_SLOT q name)
queue_numbers q name (queue.NoBuffers want) = with_want want (front_numbers kind.FRONT_LACKS_BUFFERS q name)
queue_numbers q name (queue.OtherBatch batch) = record (front_numbers kind.OTHER_BATCH q name) { other = batch }
queue_numbers q name (queue.OtherDrain drain) = record (front_numbers kind.OTHER_DRAIN q name) { other = drain }

-- how many members of its batch the engine has fetched
abbrev pub fetched_numbers : ℕ → ℕ → ℕ → ℕ → DeviceReason
fetched_numbers kind e fetched count = with_counts fetched count (reason_of_engine kind e)

-- of the engine
abbrev pub fetch_numbers : ℕ → FetchReason → DeviceReason
fetch_numbers e fetch.NoEngine = reason_of_engine kind.NO_SUCH_ENGINE e
fetch_numbers e fetch.NoBatch = reason_of_engine kind.NO_BATCH e
fetch_numbers e (fetch.AllFetched count fetched true) = fetched_numbers kind.BATCH_CLOSED e fetched count
fetch_numbers e (fetch.AllFetched count fetched false) = fetched_numbers kind.ALL_FETCHED e fetched count

-- of the engine
abbrev pub start_numbers : ℕ → StartReason → DeviceReason
start_numbers e start.Nothing = reason_of_engine kind.NO_MEMBER e
start_numbers e (start.Fence member waits_for) =
    record (reason_of_name kind.FENCE_WAITS member) { other = waits_for }
start_numbers e (start.Failed member (Some failed) left) =
    record (reason_of_name kind.FENCE_FAILED member) { other = failed; count = left }
start_numbers e (start.Failed member None left) =
    record (reason_of_name kind.FENCE_FAILED_FORGOTTEN member) { count = left }
start_numbers e (start.NoBuffers want) = with_want want (reason_of_kind kind.MEMBER_LACKS_BUFFERS)
start_numbers e start.NoGroup = reason_of_engine kind.ENGINE_WITHOUT_GROUP e

-- of the engine
abbrev pub finish_numbers : ℕ → FinishReason → DeviceReason
finish_numbers e finish.NoEngine = reason_of_engine kind.NO_SUCH_ENGINE e
finish_numbers e finish.NoEntry = reason_of_kind kind.CELL_EMPTY
finish_numbers e (finish.OtherName name) = record (reason_of_kind kind.CELL_OF_OTHER) { other = name }
finish_numbers e (finish.Elsewhere list) = in_list list (reason_of_kind kind.ELSEWHERE)
finish_numbers e finish.NotStarted = reason_of_kind kind.NOT_STARTED
finish_numbers e (finish.MembersLeft left) = record (reason_of_kind kind.MEMBERS_LEFT) { count = left }
finish_numbers e (finish.StillToFetch fetched count) = fetched_numbers kind.STILL_TO_FETCH e fetched count
finish_numbers e (finish.DrainWaits first) = record (reason_of_kind kind.DRAIN_WAITS) { other = first }

-- ---- entries that ended, or end without success

-- how the entry of this name ended
abbrev pub fate_numbers : ℕ → Fate → DeviceReason
fate_numbers name (fate.Completed status) = record (reason_of_name kind.COMPLETED name) { status = status }
fate_numbers name (fate.Aborted command) = record (reason_of_name kind.ABORTED name) { command = command }
fate_numbers name fate.Abandoned = reason_of_name kind.ABANDONED name

-- a number that is too small, or above 2 to the power of this shift of the queue
abbrev pub outside_numbers : ℕ → ℕ → ℕ → ℕ → DeviceReason
outside_numbers kind number shift q = record (reason_of_queue kind q) { count = number; shift = shift }

abbrev pub done_numbers : DoneReason → DeviceReason
done_numbers (done.NotSupported op) = record (reason_of_kind kind.NOT_SUPPORTED) { operation = op }
done_numbers done.FenceOutside = reason_of_kind kind.FENCE_OUTSIDE
done_numbers (done.SizeOutside size shift q) = outside_numbers kind.SIZE_OUTSIDE size shift q
done_numbers (done.CountOutside count shift q) = outside_numbers kind.COUNT_OUTSIDE count shift q
done_numbers (done.MembersFailed first status failed) =
    record (reason_of_name kind.MEMBERS_FAILED first) { status = status; count = in_32_bits failed }
done_numbers done.FailureForgotten = reason_of_kind kind.MEMBERS_FAILED_FORGOTTEN
done_numbers done.PageFault = reason_of_kind kind.PAGE_FAULT

-- ---- what the check of an enable finds

-- a queue or an engine, each with its kind
abbrev pub named_numbers : ℕ → ℕ → Named → DeviceReason
named_numbers of_queue of_engine (named.Queue q) = reason_of_queue of_queue q
named_numbers of_queue of_engine (named.Engine e) = reason_of_engine of_engine e

-- a kind for each bound, and the bound
abbrev pub bound_kind : Bound → ℕ
bound_kind (bound.Reserved reserved) = kind.ALLOWED_BELOW_RESERVED
bound_kind (bound.Unreserved left) = kind.ALLOWED_ABOVE_REST
bound_kind bound.Need = kind.ALLOWED_BELOW_NEED

abbrev pub bound_number : Bound → ℕ
bound_number (bound.Reserved reserved) = reserved
bound_number (bound.Unreserved left) = left
bound_number bound.Need = 4

-- of a queue
abbrev pub queue_check_numbers : CheckReason → DeviceReason
queue_check_numbers (check.SizeZero q) = reason_of_queue kind.SIZE_ZERO q
queue_check_numbers (check.PriorityZero q) = reason_of_queue kind.PRIORITY_ZERO q
queue_check_numbers (check.PriorityTooLarge q priority) =
    with_counts priority 15 (reason_of_queue kind.PRIORITY_TOO_LARGE q)
queue_check_numbers (check.ThresholdZero q) = reason_of_queue kind.THRESHOLD_ZERO q
queue_check_numbers (check.ThresholdAboveSize q threshold size) =
    with_counts threshold size (reason_of_queue kind.THRESHOLD_ABOVE_SIZE q)
queue_check_numbers (check.BatchTooLarge q asked most) =
    with_counts asked most (reason_of_queue kind.BATCH_TOO_LARGE q)
queue_check_numbers (check.TransferTooLarge q asked most) =
    with_counts asked most (reason_of_queue kind.TRANSFER_TOO_LARGE q)
queue_check_numbers (check.NoGroup q) = reason_of_queue kind.QUEUE_WITHOUT_GROUP q
queue_check_numbers _ = reason_of_kind kind.NONE

-- of the device, of a group, or of a queue
abbrev pub check_numbers : CheckReason → DeviceReason
check_numbers (check.NamesMissing group named count) =
    record (named_numbers kind.GROUP_NAMES_NO_QUEUE kind.GROUP_NAMES_NO_ENGINE named) {
      group = in_32_bits group;
      limit = count;
    }
check_numbers (check.SizesTooLarge sizes total) = with_counts sizes total (reason_of_kind kind.SIZES_TOO_LARGE)
check_numbers (check.TwoGroups named first second) =
    record (named_numbers kind.QUEUE_IN_TWO_GROUPS kind.ENGINE_IN_TWO_GROUPS named) {
      group = in_32_bits first;
      other = in_32_bits second;
    }
check_numbers (check.ReservedTooMany reserved total) =
    with_counts reserved total (reason_of_kind kind.RESERVED_TOO_MANY)
check_numbers (check.AllowedOutOfRange group allowed bound) =
    with_counts allowed (bound_number bound) (reason_of_group (bound_kind bound) group)
check_numbers (check.GroupWithoutEngine group) = reason_of_group kind.GROUP_WITHOUT_ENGINE group
check_numbers (check.GroupWithoutQueue group) = reason_of_group kind.GROUP_WITHOUT_QUEUE group
check_numbers reason = queue_check_numbers reason

-- ---- commands

-- so many entries that a command waits for, of which this is the first
abbrev pub waiting_numbers : ℕ → Option ListedEntry → DeviceReason → DeviceReason
waiting_numbers awaited None reason = record reason { count = in_32_bits awaited }
waiting_numbers awaited (Some first) reason =
    in_list first.list (record reason { count = in_32_bits awaited; name = first.entry.name })

abbrev pub command_numbers : ℕ → Command → DeviceReason
command_numbers kind command = record (reason_of_kind kind) {
  command = number_of_command command;
  operand = operand_of_scope (scope_of command);
}

-- the active command, and what it waits for, or that nothing is left
abbrev pub active_numbers : Command → ℕ → Option ListedEntry → DeviceReason
active_numbers active awaited first = cond (awaited == 0) (command_numbers kind.COMMAND_OVER active)
    (waiting_numbers awaited first (command_numbers kind.COMMAND_ACTIVE active))

-- with the first entry that is awaited
abbrev pub issue_numbers : Option ListedEntry → IssueReason → DeviceReason
issue_numbers first (issue.Busy active awaited) = active_numbers active awaited first
issue_numbers first (issue.NoQueue None) = reason_of_kind kind.NO_QUEUE_NAMED
issue_numbers first (issue.NoQueue (Some q)) = reason_of_queue kind.NO_SUCH_QUEUE q
issue_numbers first (issue.WrongPhase None phase) =
    record (reason_of_kind kind.WRONG_DEVICE_PHASE) { device_phase = phase_number phase }
issue_numbers first (issue.WrongPhase (Some q) phase) =
    record (reason_of_queue kind.WRONG_QUEUE_PHASE q) { phase = phase_number phase }
issue_numbers first (issue.Check reason) = check_numbers reason

-- with the first entry that is awaited
abbrev pub poll_numbers : Option ListedEntry → PollReason → DeviceReason
poll_numbers first poll.Nothing = reason_of_kind kind.NO_COMMAND
poll_numbers first (poll.Waits awaited) = waiting_numbers awaited first (reason_of_kind kind.COMMAND_WAITS)

abbrev pub wait_numbers : WaitReason → DeviceReason
wait_numbers reason = waiting_numbers reason.awaited (Some reason.first) (reason_of_kind kind.WOULD_WAIT)

abbrev pub clear_numbers : ClearReason → DeviceReason
clear_numbers clear.NothingNoted = reason_of_kind kind.NOTHING_NOTED

-- ---- the reason of an event

abbrev pub without_reason : DeviceReason
without_reason = reason_of_kind kind.NONE

-- the numbers of a reason, where there is one
abbrev pub told_in_numbers : {R : Type 0} → (R → DeviceReason) → Option R → DeviceReason
told_in_numbers numbers None = without_reason
told_in_numbers numbers (Some reason) = numbers reason

-- the reason of the engine; where it has none, that each queue of its group has one, or that there is no such queue
abbrev pub idle_numbers : Work → ℕ → Option EngineReason → DeviceReason
idle_numbers w e (Some reason) = engine_numbers e reason
idle_numbers w e None = cond (any_reason w e w.setup.caps.queues) (reason_of_engine kind.ENGINE_IDLE e)
    (reason_of_engine kind.ENGINE_WITHOUT_QUEUE e)

-- why the engine starts no member, or that the device has no such engine
abbrev pub unstarted_numbers : Work → ℕ → DeviceReason
unstarted_numbers w e = cond (nat_lt e w.setup.caps.engines)
    (told_in_numbers (start_numbers e) (start_reason w e)) (reason_of_engine kind.NO_SUCH_ENGINE e)

-- how the entry ended; of a name that was not given, that no entry has it; and else the reason
abbrev pub gone_numbers : Work → ℕ → Ticket → FinishReason → Option Fate → DeviceReason
gone_numbers w e ticket reason (Some fate) = fate_numbers ticket.name fate
gone_numbers w e ticket reason None = cond (nat_lt ticket.name w.setup.next_name) (finish_numbers e reason)
    (reason_of_name kind.NO_SUCH_NAME ticket.name)

-- why the engine does not end the entry of the ticket
abbrev pub unended_numbers : Work → ℕ → Ticket → FinishReason → DeviceReason
unended_numbers w e ticket reason = cond (is_of_cell reason)
    (gone_numbers w e ticket reason (fate_named w ticket.name)) (finish_numbers e reason)

-- why the engine does not end the entry of the ticket, or why it ends without success
abbrev pub end_numbers : Work → ℕ → Ticket → Outcome → Option FinishReason → DeviceReason
end_numbers w e ticket outcome (Some reason) = unended_numbers w e ticket reason
end_numbers w e ticket outcome None = told_in_numbers done_numbers (done_reason w e ticket outcome)

-- how many entries an abort or a reset removes
abbrev pub removed_count : State → Command → ℕ
removed_count s command = in_32_bits (count_where (is_in_scope (scope_of command)) s.work.content)

-- the same as a reason, where it removes any
abbrev pub removal_numbers : ℕ → DeviceReason
removal_numbers removed = cond (removed == 0) without_reason
    (record (reason_of_kind kind.WOULD_REMOVE) { count = removed })

-- what is told of a command that is carried out: how many entries it removes, or waits for
abbrev pub deed_numbers : State → Command → Deed → DeviceReason
deed_numbers s command Abort = removal_numbers (removed_count s command)
deed_numbers s command Reset = removal_numbers (removed_count s command)
deed_numbers s command _ = told_in_numbers wait_numbers (wait_reason s command)

-- why a command is refused, or what it removes or waits for
abbrev pub command_told : State → Command → Option IssueReason → DeviceReason
command_told s command None = deed_numbers s command (deed_of command)
command_told s command (Some reason) = issue_numbers (awaited_entry s) reason

-- why the event is answered as it is in this state; no event that C gives writes a configuration
abbrev pub event_numbers : State → Event → DeviceReason
event_numbers s (event.Submit client queue portal kind desc) =
    told_in_numbers (submit_numbers queue) (submit_reason (intake_of s) queue portal kind)
event_numbers s (event.Dispatch engine) = idle_numbers s.work engine (engine_reason s.work engine)
event_numbers s (event.Fetch engine desc) = told_in_numbers (fetch_numbers engine) (fetch_reason s.work engine)
event_numbers s (event.Start engine) = unstarted_numbers s.work engine
event_numbers s (event.Finish engine ticket outcome) =
    end_numbers s.work engine ticket outcome (finish_reason s.work engine ticket)
event_numbers s (event.Issue command) = command_told s command (issue_reason s command)
event_numbers s event.Poll = told_in_numbers (poll_numbers (awaited_entry s)) (poll_reason s)
event_numbers s event.ClearError = told_in_numbers clear_numbers (clear_reason s.work.setup.noted)
event_numbers s event = without_reason

-- that the history has no room, or that no more names were left
abbrev pub full_kind : Running → ℕ
full_kind d = cond (nat_lt d.capacity d.room) kind.NAMES_SHORT kind.HISTORY_FULL

abbrev pub full_numbers : Running → DeviceReason
full_numbers d = record (reason_of_kind (full_kind d)) { limit = in_32_bits d.capacity }

-- why a device that stands so answers the event as it does
abbrev pub answer_numbers : Running → Event → DeviceReason
answer_numbers d event = cond (length d.history == d.capacity) (full_numbers d) (event_numbers d.state event)

-- the same for C, where a dispatch that takes an entry has no reason
abbrev pub reason_for_c : Running → Event → DeviceReason
reason_for_c d event = cond (is_taking d event) without_reason (answer_numbers d event)

-- ---- the reason of a queue

-- of a queue of the engine's group; none where the engine may take from it
abbrev pub queue_reason_for_c : ℕ → ℕ → Running → Option DeviceReason
queue_reason_for_c e q d = cond (qualifies d.state.work e q) (Some without_reason)
    (option_map (queue_numbers q (name_of_entry (front_of d.state.work q))) (queue_reason d.state.work e q))

-- ---- the law of reasons

-- an event that writes a configuration
abbrev pub writes_config : Event → Bool
writes_config (event.WriteQueue queue config) = true
writes_config (event.WriteGroup group config) = true
writes_config event = false
