-- What a step answered, as an object.
use Rattle.dsa_book.specs.declared.answer.ClearAnswer.TheVariants as clear
use Rattle.dsa_book.specs.declared.answer.DispatchAnswer.TheVariants as dispatch
use Rattle.dsa_book.specs.declared.answer.FetchAnswer.TheVariants as fetch
use Rattle.dsa_book.specs.declared.answer.FinishAnswer.TheVariants as finish
use Rattle.dsa_book.specs.declared.answer.IssueAnswer.TheVariants as issue
use Rattle.dsa_book.specs.declared.answer.Reply.TheVariants as reply
use Rattle.dsa_book.specs.declared.answer.StartAnswer.TheVariants as start
use Rattle.dsa_book.specs.declared.answer.SubmitAnswer.TheVariants as submit
use Rattle.dsa_book.specs.declared.answer.WriteAnswer.TheVariants as write
use Rattle.std.specs.Prelude.{ℕ, ◌==◌, List, [], ◌++◌, codes, decimal}
use Rattle.std.specs.List.{before_first}
use Rattle.dsa_regs.specs.{declared.Fault.{Fault}, Fault.{fault_number, fault_name}}
use Rattle.dsa_book.specs.declared.answer.{Cause.{Cause}, Reply.{Reply}}
use Rattle.dsa_scenario.specs.declared.run.Record.{Record, TheVariants.{Stepped, Refused}}
use Rattle.dsa_scenario.specs.Lines.{cause_text, record_text}
use Rattle.dsa_trace.specs.Errors.{error_members}

-- the answer's first word
abbrev pub result_kind : Record → List ℕ
result_kind entry = before_first (λ b. b == 32) (record_text entry)

-- ---- what an answer tells, each under its key (profile)

abbrev pub name_member : ℕ → List ℕ
name_member name = codes ",\"name\":" ++ decimal name

abbrev pub status_member : ℕ → List ℕ
status_member status = codes ",\"status\":" ++ decimal status

abbrev pub cause_member : Cause → List ℕ
cause_member cause = codes ",\"cause\":\"" ++ cause_text cause ++ codes "\""

abbrev pub fault_members : Fault → List ℕ
fault_members fault =
    (codes ",\"fault\":" ++ decimal (fault_number fault)) ++ (codes ",\"fault_name\":\"" ++ fault_name fault)
    ++ codes "\""

abbrev pub reply_members : Reply → List ℕ
reply_members (reply.Submit (submit.Accepted ticket)) = name_member ticket.name
reply_members (reply.Submit (submit.Retry cause)) = cause_member cause
reply_members (reply.Submit (submit.Dropped cause)) = cause_member cause
reply_members (reply.Dispatch (dispatch.Taken ticket queue)) =
    name_member ticket.name ++ codes ",\"queue\":" ++ decimal queue
reply_members (reply.Fetch (fetch.Fetched ticket)) = name_member ticket.name
reply_members (reply.Start (start.Started ticket)) = name_member ticket.name
reply_members (reply.Start (start.Abandoned count)) = codes ",\"count\":" ++ decimal count
reply_members (reply.Finish (finish.Done status)) = status_member status
reply_members (reply.Issue (issue.Ended aborted)) = codes ",\"aborted\":" ++ decimal aborted
reply_members (reply.Issue (issue.Refused fault)) = fault_members fault
reply_members (reply.Write (write.Refused fault)) = fault_members fault
reply_members (reply.Clear (clear.Cleared noted)) = codes "," ++ error_members noted
reply_members _ = []

-- what came of a step object
abbrev pub record_members : Record → List ℕ
record_members (Stepped step) = reply_members step.reply
record_members (Refused refused) = fault_members refused.fault
