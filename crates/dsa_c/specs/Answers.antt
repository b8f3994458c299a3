-- Answers as numbers, for C.
use Rattle.std.specs.Prelude.{ℕ, Bool, true, false, Option, None, Some}
use Rattle.dsa_regs.specs.{declared.Fault.{Fault}, Fault.{fault_number}}
use Rattle.dsa_book.specs.declared.answer.Ticket.{Ticket}
use Rattle.dsa_book.specs.declared.answer.Cause.{Cause, TheVariants.{AtLimit, NotEnabled, WrongKind}}
use Rattle.dsa_book.specs.declared.answer.NotedError.{NotedError}
use Rattle.dsa_book.specs.declared.answer.SubmitAnswer.TheVariants.{Accepted, Retry, Dropped, Full}
use Rattle.dsa_book.specs.declared.answer.DispatchAnswer.{DispatchAnswer, TheVariants.{Taken, Idle, Full}}
use Rattle.dsa_book.specs.declared.answer.FetchAnswer.TheVariants.{Fetched, NoBatch, AllFetched, Full}
use Rattle.dsa_book.specs.declared.answer.StartAnswer.TheVariants.{Started, FenceWait, NoBuffers, Abandoned, Nothing}
use Rattle.dsa_book.specs.declared.answer.StartAnswer.TheVariants.{Full}
use Rattle.dsa_book.specs.declared.answer.FinishAnswer.TheVariants.{Done, NotReady, Gone, Full}
use Rattle.dsa_book.specs.declared.answer.IssueAnswer.TheVariants.{Ended, Active, Refused, Full}
use Rattle.dsa_book.specs.declared.answer.PollAnswer.TheVariants.{Finished, Active, Nothing, Full}
use Rattle.dsa_book.specs.declared.answer.WriteAnswer.TheVariants.{Written, Refused, Full}
use Rattle.dsa_book.specs.declared.answer.ClearAnswer.TheVariants.{Cleared, Nothing, Full}
use Rattle.dsa_book.specs.declared.answer.Reply.{Reply}
use Rattle.dsa_book.specs.declared.answer.Reply.TheVariants.{Submit, Dispatch, Fetch, Start, Finish, Issue, Poll}
use Rattle.dsa_book.specs.declared.answer.Reply.TheVariants.{Write, Clear}
use Rattle.dsa_book.specs.declared.event.Step.{Step}
use Rattle.dsa_book.specs.declared.fate.{Fate.{Fate, TheVariants.{Completed, Aborted, Abandoned}}, FateRow.{FateRow}}
use Rattle.dsa_c.specs.declared.answer.{AnswerKind.{AnswerKind}, Answer.{Answer}, Ending.{Ending}}
use Rattle.dsa_c.specs.declared.answer.AnswerKind.TheVariants as kind
use Rattle.dsa_c.specs.declared.numbers.TheConstants.{AT_LIMIT, NOT_ENABLED, WRONG_KIND, NOT_ENDED, COMPLETED, ABORTED}
use Rattle.dsa_c.specs.declared.numbers.TheConstants.{BEHIND_FENCE}

-- the number of each kind of answer (enum dsa_kind of the header)
abbrev pub kind_number : AnswerKind → ℕ
kind_number kind.NoDevice = 0
kind_number kind.Accepted = 1
kind_number kind.Retry = 2
kind_number kind.Dropped = 3
kind_number kind.Taken = 4
kind_number kind.Idle = 5
kind_number kind.Fetched = 6
kind_number kind.NoBatch = 7
kind_number kind.AllFetched = 8
kind_number kind.Started = 9
kind_number kind.FenceWait = 10
kind_number kind.NoBuffers = 11
kind_number kind.Abandoned = 12
kind_number kind.Nothing = 13
kind_number kind.Done = 14
kind_number kind.NotReady = 15
kind_number kind.Gone = 16
kind_number kind.Ended = 17
kind_number kind.Active = 18
kind_number kind.Refused = 19
kind_number kind.Finished = 20
kind_number kind.Written = 21
kind_number kind.Cleared = 22
kind_number kind.Full = 23
kind_number kind.BadArgument = 24

-- an answer of this kind, with one more number
abbrev pub plain : AnswerKind → ℕ → Answer
plain kind more = record { kind = kind_number kind; name = 0; cell = 0; more = more }

-- an answer of this kind that names an entry
abbrev pub of_ticket : AnswerKind → Ticket → ℕ → Answer
of_ticket kind ticket more =
    record { kind = kind_number kind; name = ticket.name; cell = ticket.cell.0; more = more }

abbrev pub cause_number : Cause → ℕ
cause_number AtLimit = AT_LIMIT
cause_number NotEnabled = NOT_ENABLED
cause_number WrongKind = WRONG_KIND

abbrev pub bit_number : Bool → ℕ
bit_number true = 1
bit_number false = 0

abbrev pub of_noted : NotedError → Answer
of_noted noted = record {
  kind = kind_number kind.Cleared;
  name = noted.queue;
  cell = bit_number noted.overflow;
  more =
      cause_number noted.cause;
}

-- the handle has no device
abbrev pub no_device : Answer
no_device = plain kind.NoDevice 0

-- the number of an argument is none of those that it may have
abbrev pub bad_argument : Answer
bad_argument = plain kind.BadArgument 0

abbrev pub refusal_answer : Fault → Answer
refusal_answer fault = plain kind.Refused (fault_number fault)

-- what each reply of the machine is to C
abbrev pub answer_of : Reply → Answer
answer_of (Submit (Accepted ticket)) = of_ticket kind.Accepted ticket 0
answer_of (Submit (Retry cause)) = plain kind.Retry (cause_number cause)
answer_of (Submit (Dropped cause)) = plain kind.Dropped (cause_number cause)
answer_of (Submit Full) = plain kind.Full 0
answer_of (Dispatch (Taken ticket queue)) = of_ticket kind.Taken ticket queue
answer_of (Dispatch Idle) = plain kind.Idle 0
answer_of (Dispatch Full) = plain kind.Full 0
answer_of (Fetch (Fetched ticket)) = of_ticket kind.Fetched ticket 0
answer_of (Fetch NoBatch) = plain kind.NoBatch 0
answer_of (Fetch AllFetched) = plain kind.AllFetched 0
answer_of (Fetch Full) = plain kind.Full 0
answer_of (Start (Started ticket)) = of_ticket kind.Started ticket 0
answer_of (Start FenceWait) = plain kind.FenceWait 0
answer_of (Start NoBuffers) = plain kind.NoBuffers 0
answer_of (Start (Abandoned count)) = plain kind.Abandoned count
answer_of (Start Nothing) = plain kind.Nothing 0
answer_of (Start Full) = plain kind.Full 0
answer_of (Finish (Done status)) = plain kind.Done status
answer_of (Finish NotReady) = plain kind.NotReady 0
answer_of (Finish Gone) = plain kind.Gone 0
answer_of (Finish Full) = plain kind.Full 0
answer_of (Issue (Ended aborted)) = plain kind.Ended aborted
answer_of (Issue Active) = plain kind.Active 0
answer_of (Issue (Refused fault)) = refusal_answer fault
answer_of (Issue Full) = plain kind.Full 0
answer_of (Poll Finished) = plain kind.Finished 0
answer_of (Poll Active) = plain kind.Active 0
answer_of (Poll Nothing) = plain kind.Nothing 0
answer_of (Poll Full) = plain kind.Full 0
answer_of (Write Written) = plain kind.Written 0
answer_of (Write (Refused fault)) = refusal_answer fault
answer_of (Write Full) = plain kind.Full 0
answer_of (Clear (Cleared noted)) = of_noted noted
answer_of (Clear Nothing) = plain kind.Nothing 0
answer_of (Clear Full) = plain kind.Full 0

-- what a dispatch from a queue is to C: idle where the queue does not qualify
abbrev pub answer_from_queue : Option DispatchAnswer → Answer
answer_from_queue None = plain kind.Idle 0
answer_from_queue (Some answer) = answer_of (Dispatch answer)

-- the noted error, or that there is none
abbrev pub noted_answer : Option NotedError → Answer
noted_answer None = plain kind.Nothing 0
noted_answer (Some noted) = of_noted noted

-- how an entry ended: with a status, by a command, or behind a fence
abbrev pub fate_kind : Fate → ℕ
fate_kind (Completed status) = COMPLETED
fate_kind (Aborted command) = ABORTED
fate_kind Abandoned = BEHIND_FENCE

abbrev pub fate_number : Fate → ℕ
fate_number (Completed status) = status
fate_number (Aborted command) = command
fate_number Abandoned = 0

-- the largest number of 32 bits, where an entry has no parent
abbrev pub parent_number : Option ℕ → ℕ
parent_number None = 4294967295
parent_number (Some name) = name

abbrev pub ending_of : Option FateRow → Ending
ending_of None = record { kind = NOT_ENDED; name = 0; parent = 0; number = 0 }
ending_of (Some row) = record {
  kind = fate_kind row.fate;
  name = row.name;
  parent =
      parent_number row.parent;
  number = fate_number row.fate;
}

-- the answer of a stored step, or that there is none
abbrev pub step_answer : Option Step → Answer
step_answer None = plain kind.Nothing 0
step_answer (Some step) = answer_of step.reply
