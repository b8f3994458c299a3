-- What steps are marked with.
use Rattle.dsa_book.specs.declared.answer.SubmitAnswer.TheVariants as submit
use Rattle.dsa_book.specs.declared.answer.DispatchAnswer.TheVariants as dispatch
use Rattle.dsa_book.specs.declared.answer.FetchAnswer.TheVariants as fetch
use Rattle.dsa_book.specs.declared.answer.StartAnswer.TheVariants as start
use Rattle.dsa_book.specs.declared.answer.FinishAnswer.TheVariants as finish
use Rattle.dsa_book.specs.declared.answer.IssueAnswer.TheVariants as issue
use Rattle.dsa_book.specs.declared.answer.PollAnswer.TheVariants as poll
use Rattle.dsa_book.specs.declared.answer.WriteAnswer.TheVariants as write
use Rattle.dsa_book.specs.declared.answer.ClearAnswer.TheVariants as clear
use Rattle.dsa_book.specs.declared.answer.Reply.TheVariants as reply
use Rattle.std.specs.Prelude.{Bool, true, false, ◌==◌, not, if◌then◌else◌}
use Rattle.dsa_book.specs.declared.answer.Reply.{Reply}
use Rattle.dsa_scenario.specs.declared.run.Record.{Record, TheVariants.{Stepped, Refused}}
use Rattle.dsa_draw.specs.declared.marks.Mark.{Mark, TheVariants.{Done, Wait, Failed}}

-- the step did what it was asked for; what it ended was successful
abbrev pub is_done_as_asked : Reply → Bool
is_done_as_asked (reply.Submit (submit.Accepted ticket)) = true
is_done_as_asked (reply.Dispatch (dispatch.Taken ticket queue)) = true
is_done_as_asked (reply.Fetch (fetch.Fetched ticket)) = true
is_done_as_asked (reply.Start (start.Started ticket)) = true
is_done_as_asked (reply.Finish (finish.Done status)) = status == 1
is_done_as_asked (reply.Issue (issue.Ended aborted)) = true
is_done_as_asked (reply.Poll poll.Finished) = true
is_done_as_asked (reply.Write write.Written) = true
is_done_as_asked (reply.Clear (clear.Cleared noted)) = true
is_done_as_asked _ = false

-- it was refused or dropped, the history was full, or what it ended was not successful
abbrev pub is_failed : Reply → Bool
is_failed (reply.Submit (submit.Dropped cause)) = true
is_failed (reply.Submit submit.Full) = true
is_failed (reply.Dispatch dispatch.Full) = true
is_failed (reply.Fetch fetch.Full) = true
is_failed (reply.Start (start.Abandoned count)) = true
is_failed (reply.Start start.Full) = true
is_failed (reply.Finish (finish.Done status)) = not (status == 1)
is_failed (reply.Finish finish.Gone) = true
is_failed (reply.Finish finish.Full) = true
is_failed (reply.Issue (issue.Refused fault)) = true
is_failed (reply.Issue issue.Full) = true
is_failed (reply.Poll poll.Full) = true
is_failed (reply.Write (write.Refused fault)) = true
is_failed (reply.Write write.Full) = true
is_failed (reply.Clear clear.Full) = true
is_failed _ = false

abbrev pub reply_mark : Reply → Mark
reply_mark answer = if is_done_as_asked answer then
    Done else (if is_failed answer then Failed else Wait)

-- how a step object came out
abbrev pub mark_of : Record → Mark
mark_of (Stepped step) = reply_mark step.reply
mark_of (Refused fault) = Failed
