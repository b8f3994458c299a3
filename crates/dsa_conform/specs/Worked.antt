-- Observations and answers that the worked rows speak of.
use Rattle.dsa_book.specs.declared.answer.Reply.TheVariants as reply
use Rattle.dsa_book.specs.declared.event.Event.TheVariants as event
use Rattle.std.specs.Prelude.{ℕ, Bool, String, true, false, List, [], ◌∷◌, ◌++◌, map, take, Some, None, Ok, codes, ⊤}
use Rattle.std.specs.{Char.{encode_utf8}, Str.{chars}}
use Rattle.std.specs.declared.{alloc.Global.{Global}, vec.Vec.{Vec}}
use Rattle.dsa_book.specs.declared.answer.{Ticket.{Ticket}, DispatchAnswer.TheVariants.{Taken}}
use Rattle.dsa_book.specs.declared.answer.{SubmitAnswer.{SubmitAnswer, TheVariants.{Accepted, Dropped}}}
use Rattle.dsa_book.specs.declared.answer.{Cause.TheVariants.{AtLimit}, ClearAnswer.TheVariants.{Cleared}}
use Rattle.dsa_book.specs.declared.answer.FinishAnswer.TheVariants.{Done}
use Rattle.dsa_book.specs.declared.answer.PollAnswer.{PollAnswer, TheVariants.{Nothing}}
use Rattle.dsa_book.specs.declared.answer.{IssueAnswer.TheVariants.{Ended}, WriteAnswer.TheVariants.{Written}}
use Rattle.dsa_book.specs.declared.event.{Event.{Event}, Kind.TheVariants.{Enqcmd, Movdir64b}}
use Rattle.dsa_book.specs.declared.event.{Portal.TheVariants.{Limited}}
use Rattle.dsa_desc.specs.declared.Outcome.TheVariants.{Success}
use Rattle.dsa_device.specs.Running.{Running, running_at_first}
use Rattle.dsa_regs.specs.declared.{Caps.{Caps}, QueueConfig.{QueueConfig}}
use Rattle.dsa_buffers.specs.declared.want.BufferWant.{BufferWant}
use Rattle.dsa_book.specs.State.{State, Work}
use Rattle.dsa_regs.specs.declared.Command.TheVariants.{DrainAll, EnableDevice, EnableWq}
use Rattle.dsa_scenario.specs.Worked.{no_command}
use Rattle.dsa_scenario.specs.declared.actions.Action.{Action, TheVariants.{Ask, Finish, Refuse}}
use Rattle.dsa_scenario.specs.declared.run.Record.{Record, TheVariants.{Stepped, Refused}}
use Rattle.dsa_scenario.specs.{Steps.{standing}, Worked.{record_ticket, stepped, fill, caps_of_a_run, queue_of_a_run}}
use Rattle.dsa_scenario.specs.Worked.{group_of_a_run, records_of_a_run, submission_of_a_run, smallest_caps}
use Rattle.json.specs.Print.{escape_byte}
use Rattle.dsa_scenario.specs.Worked.{smallest_caps_text, document_text, digits_on_literals}
use Rattle.dsa_conform.specs.{declared.{told.{Line.{Line}, Told.{Told}}, way.Way.{Way}}, Seen.{Seen, nothing_seen}}
use Rattle.dsa_conform.specs.{Against.{fact_against}, Ways.{RunFrom}}

-- the text of an answer was seen
abbrev pub answered : List ℕ → Seen
answered text = record { answer = Some text; zf = None }

-- the zero flag was
abbrev pub flagged : Bool → Seen
flagged flag = record { answer = None; zf = Some flag }

-- both were
abbrev pub answered_with : List ℕ → Bool → Seen
answered_with text flag = record { answer = Some text; zf = Some flag }

-- answers to a submission
abbrev pub by_enqcmd : SubmitAnswer → Record
by_enqcmd answer = stepped (event.Submit 0 0 Limited (Enqcmd 1) fill) (reply.Submit answer)

abbrev pub by_movdir : SubmitAnswer → Record
by_movdir answer = stepped (event.Submit 0 0 Limited Movdir64b fill) (reply.Submit answer)

-- engine 0 takes the entry of this name from the queue
abbrev pub record_of_a_take : ℕ → ℕ → Record
record_of_a_take name queue = stepped (event.Dispatch 0) (reply.Dispatch (Taken (record_ticket 3 name) queue))

-- what a record answers, where it is of a step that names no entry
abbrev pub action_of_record : Record → Action
action_of_record (Stepped step) = Ask step.event
action_of_record (Refused fault) = Refuse fault

-- why a queue is not taken from
abbrev pub idle_words : List ℕ
idle_words = codes ": q1 is empty"

-- a run, with what was seen of some of its steps
abbrev pub observed_of_a_run : List (Action × Seen)
observed_of_a_run =
    (Ask (event.WriteQueue 0 queue_of_a_run), nothing_seen) ∷
    (Ask (event.WriteGroup 0 group_of_a_run), answered (codes "written")) ∷
    (Ask (event.Issue EnableDevice), nothing_seen) ∷
    (Ask (event.Issue (EnableWq 0)), answered (codes "ended 0")) ∷
    (Refuse no_command, answered (codes "refused 13 BadCommand")) ∷
    (Ask submission_of_a_run, record { answer = Some (codes "accepted"); zf = Some false }) ∷
    (Ask (event.Dispatch 0), answered (codes "taken from 0")) ∷
    (Finish 0 0 Success, answered (codes "done 01")) ∷
    (Ask event.Poll, answered (codes "full")) ∷ []

-- ---- a device with a group of two engines and two queues, and an entry in each of these; the queue between is off

abbrev pub caps_of_three_queues : Caps
caps_of_three_queues = record caps_of_a_run { queues = 3; engines = 2 }

abbrev pub half_queue : QueueConfig
half_queue = record queue_of_a_run { size = 8 }

-- a Move was accepted in the queue
abbrev pub accepted_in : ℕ → Ticket → Record
accepted_in queue record_ticket = stepped
    (event.Submit 0 queue Limited (Enqcmd 1) (record { pasid = 0; flags = 0; op = 3; size = 4096 }))
    (reply.Submit (Accepted record_ticket))

abbrev pub records_of_two_queues : List Record
records_of_two_queues =
    stepped (event.WriteQueue 0 half_queue) (reply.Write Written) ∷
    stepped (event.WriteQueue 2 half_queue) (reply.Write Written) ∷
    stepped (event.WriteGroup 0 (record group_of_a_run { queues = 5; engines = 3 })) (reply.Write Written) ∷
    stepped (event.Issue EnableDevice) (reply.Issue (Ended 0)) ∷
    stepped (event.Issue (EnableWq 0)) (reply.Issue (Ended 0)) ∷
    stepped (event.Issue (EnableWq 2)) (reply.Issue (Ended 0)) ∷
    accepted_in 0 (record_ticket 3 0) ∷
    accepted_in 2 (record_ticket 5 1) ∷ []

-- engine 0 takes the entry of one or the other, or one that is not there
abbrev pub from_first : Record
from_first = stepped (event.Dispatch 0) (reply.Dispatch (Taken (record_ticket 3 0) 0))

abbrev pub from_second : Record
from_second = stepped (event.Dispatch 0) (reply.Dispatch (Taken (record_ticket 5 1) 2))

abbrev pub from_third : Record
from_third = stepped (event.Dispatch 0) (reply.Dispatch (Taken (record_ticket 7 2) 3))

-- the entry of the second queue ends, which the engine has only if it took from there
abbrev pub end_of_second : Record
end_of_second = stepped (event.Finish 0 (record_ticket 5 1) Success) (reply.Finish (Done 1))

-- a recording of it, without the answer of the dispatch
abbrev pub observed_of_two_queues : List (Action × Seen)
observed_of_two_queues =
    map (λ entry. (action_of_record entry, nothing_seen)) (records_of_two_queues ++ from_first ∷ [])
    ++ (Finish 0 1 Success, answered (codes "done 01")) ∷ []

-- how the device stands after so many of these records, and after all
abbrev pub after_some : ℕ → Running
after_some count = standing caps_of_three_queues 9 (take count records_of_two_queues)

abbrev pub after_all : Running
after_all = standing caps_of_three_queues 9 records_of_two_queues

-- and after engine 0 took from the first queue
abbrev pub after_a_take : Running
after_a_take = standing caps_of_three_queues 9 (records_of_two_queues ++ from_first ∷ [])

-- ---- a device with two dedicated queues that hold one entry each

abbrev pub caps_of_two_queues : Caps
caps_of_two_queues = record caps_of_a_run { queues = 2 }

abbrev pub dedicated_queue_of_one : QueueConfig
dedicated_queue_of_one = record queue_of_a_run { size = 1; dedicated = true }

abbrev pub dedicated_answer : ℕ → SubmitAnswer → Record
dedicated_answer queue answer = stepped (event.Submit 0 queue Limited Movdir64b fill) (reply.Submit answer)

-- engine 0 took from one of them; then two came into the first, of which the last was dropped
abbrev pub records_of_an_error : Record → SubmitAnswer → List Record
records_of_an_error take answer =
    stepped (event.WriteQueue 0 dedicated_queue_of_one) (reply.Write Written) ∷
    stepped (event.WriteQueue 1 dedicated_queue_of_one) (reply.Write Written) ∷
    stepped (event.WriteGroup 0 (record group_of_a_run { queues = 3 })) (reply.Write Written) ∷
    stepped (event.Issue EnableDevice) (reply.Issue (Ended 0)) ∷
    stepped (event.Issue (EnableWq 0)) (reply.Issue (Ended 0)) ∷
    stepped (event.Issue (EnableWq 1)) (reply.Issue (Ended 0)) ∷
    dedicated_answer 0 (Accepted (record_ticket 3 0)) ∷
    dedicated_answer 1 (Accepted (record_ticket 5 1)) ∷
    take ∷
    dedicated_answer 0 answer ∷
    dedicated_answer 0 (Dropped AtLimit) ∷ []

-- it took from the first, and one error came, or from the second, and two came
abbrev pub records_of_one_error : List Record
records_of_one_error = records_of_an_error from_first (Accepted (record_ticket 7 2))

abbrev pub records_of_two_errors : List Record
records_of_two_errors = records_of_an_error
    (stepped (event.Dispatch 0) (reply.Dispatch (Taken (record_ticket 5 1) 1)))
    (Dropped AtLimit)

abbrev pub observed_of_an_error : List (Action × Seen)
observed_of_an_error = map (λ entry. (action_of_record entry, nothing_seen)) records_of_one_error

-- what is cleared then
abbrev pub cleared : Bool → Record
cleared overflow = stepped event.ClearError
    (reply.Clear (Cleared (record { queue = 0; cause = AtLimit; overflow = overflow })))

-- ---- a device whose parts do not belong together: its queue has room, and no cell is the device's

abbrev pub without_cells : Running → Running
without_cells d = record d {
  state = record d.state {
    work = record d.state.work {
      setup = record d.state.work.setup { caps = record caps_of_a_run { total_size = 0; engines = 0 } };
    };
  };
}

abbrev pub no_cells : Running
no_cells = without_cells (standing caps_of_a_run 9 (take 4 records_of_a_run))

-- ---- lines, and what is told of devices

-- an answer with this text
abbrev pub line_of : Record → String Global → Line
line_of entry text = record { entry = entry; text = text }

-- what a device allows, why, and a fact against what was seen
abbrev pub told_against : String Global → String Global → Vec Record Global → Told
told_against why against allowed = record { why = why; against = against; allowed = allowed }

-- the same, where the fact is not looked at
abbrev pub told_allowing : String Global → Vec Record Global → Told
told_allowing why allowed = told_against why why allowed

-- ---- the smallest device

abbrev pub smallest_device_at_first : Running
smallest_device_at_first = running_at_first smallest_caps 9

-- it goes there by these records, of which this was seen
abbrev pub GoesAtFirst : List (Action × Seen) → List Record → Running → Type 0
GoesAtFirst observed records after = RunFrom [] smallest_device_at_first observed records after

-- a poll of which this was seen
abbrev pub polled_with : Seen → List (Action × Seen)
polled_with seen = (Ask event.Poll, seen) ∷ []

-- a word that is no command, and then such a poll
abbrev pub refused_then_polled : Seen → List (Action × Seen)
refused_then_polled seen = (Refuse no_command, nothing_seen) ∷ polled_with seen

-- an answer to it, and the line of the one that it may have
abbrev pub poll_record : PollAnswer → Record
poll_record answer = stepped event.Poll (reply.Poll answer)

abbrev pub nothing_line : Record × List ℕ
nothing_line = (poll_record Nothing, codes "allowed: nothing: no command is active\n")

-- it is followed, with this capacity
abbrev pub way_at_first : ℕ → Vec Ticket Global → Way
way_at_first capacity tickets = record { device = running_at_first smallest_caps capacity; tickets = tickets }

-- a document on the smallest device, with these steps
abbrev pub document_of : List ℕ → List ℕ
document_of steps = document_text smallest_caps_text (codes "9") steps

-- a poll with a further key
abbrev pub poll_with : List ℕ → List ℕ
poll_with field = codes "{\"do\":\"poll\"," ++ field ++ codes "}"

-- ---- texts

-- ---- facts

-- the fact against this answer to the event
abbrev pub against_at : Running → Event → List ℕ → List ℕ
against_at now e text = fact_against now (Ok e) (answered text)

-- engine 0 took from the first queue, and the history has room
abbrev pub after_a_take_with_room : Running
after_a_take_with_room = standing caps_of_three_queues 12 (records_of_two_queues ++ from_first ∷ [])

-- a batch of 5 on engine 0, of which 2 are fetched
abbrev pub work_of_a_batch : Work
work_of_a_batch = record after_all.state.work {
  notes = Some (record { batch = 9; count = 5; fetched = 2; failed = false; closed = false }) ∷ None ∷ [];
}

-- a second group, for which 4 read buffers are kept
abbrev pub work_beside_a_group : Work
work_beside_a_group = record after_all.state.work {
  setup = record after_all.state.work.setup {
    caps = record caps_of_three_queues { groups = 2 };
    groups = after_all.state.work.setup.groups ++ record group_of_a_run { queues = 0; engines = 0; reserved = 4 } ∷ [];
  };
}

-- read buffers that do not fit group 0
abbrev pub want_of_a_row : BufferWant
want_of_a_row = record { group = 0; asked = 4; used = 5; allowed = 6; buffers = 7; in_use = 8; kept = 9 }

-- batches of up to 32 members, on a device of three queues
abbrev pub after_all_with_batches : Running
after_all_with_batches = record after_all {
  state = record after_all.state {
    work = record after_all.state.work {
      setup = record after_all.state.work.setup { caps = record caps_of_three_queues { max_batch_shift = 5 } };
    };
  };
}

-- a history that had this much room at first
abbrev pub with_room : ℕ → Running → Running
with_room room d = record d { room = room }

-- a drain is active
abbrev pub state_with_a_drain : State
state_with_a_drain = record after_all.state { active = Some (record { command = DrainAll; mark = 2 }) }

-- an ENQCMD to the limited portal of the queue
abbrev pub submitted_to : ℕ → Event
submitted_to queue = event.Submit 0 queue Limited (Enqcmd 1) fill

-- what a row unfolds to compute the words of a text and of a number
unfoldable pub texts_on_literals : ⊤
unfolding digits_on_literals encode_utf8 chars escape_byte
texts_on_literals = tt
