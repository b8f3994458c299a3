-- The lines that a run prints.
use Rattle.dsa_book.specs.declared.answer.SubmitAnswer.TheVariants as submit
use Rattle.dsa_book.specs.declared.answer.DispatchAnswer.TheVariants as dispatch
use Rattle.dsa_book.specs.declared.answer.FetchAnswer.TheVariants as fetch
use Rattle.dsa_book.specs.declared.answer.StartAnswer.TheVariants as start
use Rattle.dsa_book.specs.declared.answer.FinishAnswer.TheVariants as finish
use Rattle.dsa_book.specs.declared.answer.IssueAnswer.TheVariants as issue
use Rattle.dsa_book.specs.declared.answer.PollAnswer.TheVariants as poll
use Rattle.dsa_book.specs.declared.answer.WriteAnswer.TheVariants as write
use Rattle.dsa_book.specs.declared.answer.ClearAnswer.TheVariants as clear
use Rattle.dsa_book.specs.declared.answer.Reply.TheVariants as reply
use Rattle.std.specs.Prelude.{ℕ, ◌/◌, ◌%◌, Bool, true, false, List, [], ◌∷◌, ◌++◌, Option, Some, None, codes, decimal}
use Rattle.std.specs.Prelude.{flat_map}
use Rattle.std.specs.Fmt.{digit_glyph}
use Rattle.dsa_regs.specs.{declared.Fault.{Fault}, Fault.{fault_number, fault_name}}
use Rattle.dsa_book.specs.declared.answer.Cause.{Cause, TheVariants.{AtLimit, NotEnabled, WrongKind}}
use Rattle.dsa_book.specs.declared.answer.{NotedError.{NotedError}, SubmitAnswer.{SubmitAnswer}}
use Rattle.dsa_book.specs.declared.answer.{DispatchAnswer.{DispatchAnswer}, FetchAnswer.{FetchAnswer}}
use Rattle.dsa_book.specs.declared.answer.{StartAnswer.{StartAnswer}, FinishAnswer.{FinishAnswer}}
use Rattle.dsa_book.specs.declared.answer.{IssueAnswer.{IssueAnswer}, PollAnswer.{PollAnswer}}
use Rattle.dsa_book.specs.declared.answer.{WriteAnswer.{WriteAnswer}, ClearAnswer.{ClearAnswer}, Reply.{Reply}}
use Rattle.dsa_book.specs.declared.fate.{Fate.{Fate, TheVariants.{Completed, Aborted, Abandoned}}, FateRow.{FateRow}}
use Rattle.dsa_scenario.specs.declared.run.Record.{Record, TheVariants.{Stepped, Refused}}

-- two lower case hexadecimal digits
abbrev pub two_digits : ℕ → List ℕ
two_digits n = digit_glyph false (n / 16) ∷ digit_glyph false (n % 16) ∷ []

-- ---- the text of each answer (profile)

abbrev pub cause_text : Cause → List ℕ
cause_text AtLimit = codes "at-limit"
cause_text NotEnabled = codes "not-enabled"
cause_text WrongKind = codes "wrong-kind"

-- number and name of the fault
abbrev pub refusal_text : Fault → List ℕ
refusal_text fault = codes "refused " ++ decimal (fault_number fault) ++ codes " " ++ fault_name fault

abbrev pub submit_text : SubmitAnswer → List ℕ
submit_text (submit.Accepted ticket) = codes "accepted " ++ decimal ticket.name
submit_text (submit.Retry cause) = codes "retry " ++ cause_text cause
submit_text (submit.Dropped cause) = codes "dropped " ++ cause_text cause
submit_text submit.Full = codes "full"

abbrev pub dispatch_text : DispatchAnswer → List ℕ
dispatch_text (dispatch.Taken ticket queue) = codes "taken " ++ decimal ticket.name ++ codes " from " ++ decimal queue
dispatch_text dispatch.Idle = codes "idle"
dispatch_text dispatch.Full = codes "full"

abbrev pub fetch_text : FetchAnswer → List ℕ
fetch_text (fetch.Fetched ticket) = codes "fetched " ++ decimal ticket.name
fetch_text fetch.NoBatch = codes "no-batch"
fetch_text fetch.AllFetched = codes "all-fetched"
fetch_text fetch.Full = codes "full"

abbrev pub start_text : StartAnswer → List ℕ
start_text (start.Started ticket) = codes "started " ++ decimal ticket.name
start_text start.FenceWait = codes "fence-wait"
start_text start.NoBuffers = codes "no-buffers"
start_text (start.Abandoned count) = codes "abandoned " ++ decimal count
start_text start.Nothing = codes "nothing"
start_text start.Full = codes "full"

abbrev pub finish_text : FinishAnswer → List ℕ
finish_text (finish.Done status) = codes "done " ++ two_digits status
finish_text finish.NotReady = codes "not-ready"
finish_text finish.Gone = codes "gone"
finish_text finish.Full = codes "full"

abbrev pub issue_text : IssueAnswer → List ℕ
issue_text (issue.Ended aborted) = codes "ended " ++ decimal aborted
issue_text issue.Active = codes "active"
issue_text (issue.Refused fault) = refusal_text fault
issue_text issue.Full = codes "full"

abbrev pub poll_text : PollAnswer → List ℕ
poll_text poll.Finished = codes "finished"
poll_text poll.Active = codes "active"
poll_text poll.Nothing = codes "nothing"
poll_text poll.Full = codes "full"

abbrev pub write_text : WriteAnswer → List ℕ
write_text write.Written = codes "written"
write_text (write.Refused fault) = refusal_text fault
write_text write.Full = codes "full"

-- a mark where more errors came than the one that is noted
abbrev pub overflow_text : Bool → List ℕ
overflow_text true = codes " overflow"
overflow_text false = []

abbrev pub noted_text : NotedError → List ℕ
noted_text noted =
    codes "cleared " ++ decimal noted.queue ++ codes " " ++ cause_text noted.cause ++ overflow_text noted.overflow

abbrev pub clear_text : ClearAnswer → List ℕ
clear_text (clear.Cleared noted) = noted_text noted
clear_text clear.Nothing = codes "nothing"
clear_text clear.Full = codes "full"

abbrev pub reply_text : Reply → List ℕ
reply_text (reply.Submit answer) = submit_text answer
reply_text (reply.Dispatch answer) = dispatch_text answer
reply_text (reply.Fetch answer) = fetch_text answer
reply_text (reply.Start answer) = start_text answer
reply_text (reply.Finish answer) = finish_text answer
reply_text (reply.Issue answer) = issue_text answer
reply_text (reply.Poll answer) = poll_text answer
reply_text (reply.Write answer) = write_text answer
reply_text (reply.Clear answer) = clear_text answer

-- ---- fates (profile)

-- the name of the batch, or a dash for what was submitted by itself
abbrev pub parent_text : Option ℕ → List ℕ
parent_text None = codes "-"
parent_text (Some name) = decimal name

abbrev pub fate_text : Fate → List ℕ
fate_text (Completed status) = codes "completed " ++ two_digits status
fate_text (Aborted command) = codes "aborted " ++ decimal command
fate_text Abandoned = codes "abandoned"

abbrev pub row_text : FateRow → List ℕ
row_text row =
    codes "fate " ++ decimal row.name ++ codes " " ++ parent_text row.parent ++ codes " " ++ fate_text row.fate

-- ---- lines (profile)

-- a text and a line feed
abbrev pub line_of_text : List ℕ → List ℕ
line_of_text text = text ++ 10 ∷ []

-- what a step object comes to prints the answer, or the refusal of its word
abbrev pub record_text : Record → List ℕ
record_text (Stepped step) = reply_text step.reply
record_text (Refused word) = refusal_text word.fault

-- a line for each step object, and then one for each entry that ended
abbrev pub lines_of_run : List Record → List FateRow → List ℕ
lines_of_run records fates =
    flat_map (λ entry. line_of_text (record_text entry)) records ++ flat_map (λ row. line_of_text (row_text row)) fates
