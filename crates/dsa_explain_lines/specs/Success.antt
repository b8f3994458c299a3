-- Which answers need no reason.
use Rattle.dsa_book.specs.declared.answer.Reply.TheVariants as reply
use Rattle.std.specs.Prelude.{Bool, true, false}
use Rattle.dsa_desc.specs.Descriptor.{is_successful}
use Rattle.dsa_book.specs.declared.answer.Reply.{Reply}
use Rattle.dsa_book.specs.declared.answer.{SubmitAnswer.TheVariants.{Accepted}, DispatchAnswer.TheVariants.{Taken}}
use Rattle.dsa_book.specs.declared.answer.{FetchAnswer.TheVariants.{Fetched}, StartAnswer.TheVariants.{Started}}
use Rattle.dsa_book.specs.declared.answer.{FinishAnswer.TheVariants.{Done}, IssueAnswer.TheVariants.{Ended}}
use Rattle.dsa_book.specs.declared.answer.{PollAnswer.TheVariants.{Finished}, WriteAnswer.TheVariants.{Written}}
use Rattle.dsa_book.specs.declared.answer.ClearAnswer.TheVariants.{Cleared}

-- what was asked was done (profile)
abbrev pub is_success : Reply → Bool
is_success (reply.Submit (Accepted ticket)) = true
is_success (reply.Dispatch (Taken ticket queue)) = true
is_success (reply.Fetch (Fetched ticket)) = true
is_success (reply.Start (Started ticket)) = true
is_success (reply.Finish (Done status)) = is_successful status
is_success (reply.Issue (Ended aborted)) = true
is_success (reply.Poll Finished) = true
is_success (reply.Write Written) = true
is_success (reply.Clear (Cleared noted)) = true
is_success _ = false
