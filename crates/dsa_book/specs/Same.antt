-- Whether two replies are the same.
use Rattle.std.specs.{Prelude.{Bool, true, false, ◌&&◌, ◌==◌}, Bool.{beq}}
use Rattle.dsa_regs.specs.Fault.{same_fault}
use Rattle.dsa_book.specs.declared.answer.ClearAnswer.TheVariants.{Cleared, Nothing, Full}
use Rattle.dsa_book.specs.declared.answer.DispatchAnswer.TheVariants.{Taken, Idle, Full}
use Rattle.dsa_book.specs.declared.answer.FetchAnswer.TheVariants.{Fetched, NoBatch, AllFetched, Full}
use Rattle.dsa_book.specs.declared.answer.FinishAnswer.TheVariants.{Done, NotReady, Gone, Full}
use Rattle.dsa_book.specs.declared.answer.IssueAnswer.TheVariants.{Ended, Active, Refused, Full}
use Rattle.dsa_book.specs.declared.answer.PollAnswer.TheVariants.{Finished, Active, Nothing, Full}
use Rattle.dsa_book.specs.declared.answer.Reply.TheVariants.{Submit, Dispatch, Fetch, Start, Finish, Issue, Poll, Write}
use Rattle.dsa_book.specs.declared.answer.StartAnswer.TheVariants.{Started, FenceWait, NoBuffers, Abandoned, Nothing}
use Rattle.dsa_book.specs.declared.answer.SubmitAnswer.TheVariants.{Accepted, Retry, Dropped, Full}
use Rattle.dsa_book.specs.declared.answer.{Cause.{Cause, TheVariants.{AtLimit, NotEnabled, WrongKind}}, Ticket.{Ticket}}
use Rattle.dsa_book.specs.declared.answer.{Reply.{TheVariants.{Clear}, Reply}, StartAnswer.TheVariants.{Full}}
use Rattle.dsa_book.specs.declared.answer.{WriteAnswer.TheVariants.{Written, Refused, Full}, NotedError.{NotedError}}

-- the same cell and the same name
abbrev pub same_ticket : Ticket → Ticket → Bool
same_ticket a b = a.cell.0 == b.cell.0 && a.name == b.name

-- the same cause
abbrev pub same_cause : Cause → Cause → Bool
same_cause AtLimit AtLimit = true
same_cause NotEnabled NotEnabled = true
same_cause WrongKind WrongKind = true
same_cause _ _ = false

-- the same noted error
abbrev pub same_noted : NotedError → NotedError → Bool
same_noted a b = a.queue == b.queue && same_cause a.cause b.cause && beq a.overflow b.overflow

-- the same answer of the same kind
abbrev pub same_reply : Reply → Reply → Bool
same_reply (Submit (Accepted a)) (Submit (Accepted b)) = same_ticket a b
same_reply (Submit (Retry a)) (Submit (Retry b)) = same_cause a b
same_reply (Submit (Dropped a)) (Submit (Dropped b)) = same_cause a b
same_reply (Submit Full) (Submit Full) = true
same_reply (Dispatch (Taken a q)) (Dispatch (Taken b p)) = same_ticket a b && q == p
same_reply (Dispatch Idle) (Dispatch Idle) = true
same_reply (Dispatch Full) (Dispatch Full) = true
same_reply (Fetch (Fetched a)) (Fetch (Fetched b)) = same_ticket a b
same_reply (Fetch NoBatch) (Fetch NoBatch) = true
same_reply (Fetch AllFetched) (Fetch AllFetched) = true
same_reply (Fetch Full) (Fetch Full) = true
same_reply (Start (Started a)) (Start (Started b)) = same_ticket a b
same_reply (Start FenceWait) (Start FenceWait) = true
same_reply (Start NoBuffers) (Start NoBuffers) = true
same_reply (Start (Abandoned a)) (Start (Abandoned b)) = a == b
same_reply (Start Nothing) (Start Nothing) = true
same_reply (Start Full) (Start Full) = true
same_reply (Finish (Done a)) (Finish (Done b)) = a == b
same_reply (Finish NotReady) (Finish NotReady) = true
same_reply (Finish Gone) (Finish Gone) = true
same_reply (Finish Full) (Finish Full) = true
same_reply (Issue (Ended a)) (Issue (Ended b)) = a == b
same_reply (Issue Active) (Issue Active) = true
same_reply (Issue (Refused a)) (Issue (Refused b)) = same_fault a b
same_reply (Issue Full) (Issue Full) = true
same_reply (Poll Finished) (Poll Finished) = true
same_reply (Poll Active) (Poll Active) = true
same_reply (Poll Nothing) (Poll Nothing) = true
same_reply (Poll Full) (Poll Full) = true
same_reply (Write Written) (Write Written) = true
same_reply (Write (Refused a)) (Write (Refused b)) = same_fault a b
same_reply (Write Full) (Write Full) = true
same_reply (Clear (Cleared a)) (Clear (Cleared b)) = same_noted a b
same_reply (Clear Nothing) (Clear Nothing) = true
same_reply (Clear Full) (Clear Full) = true
same_reply _ _ = false
