-- The words of events and of their answers are printable.
use Rattle.dsa_book.specs.declared.event.Event.TheVariants as event
use Rattle.dsa_book.specs.declared.answer.SubmitAnswer.TheVariants as submit
use Rattle.dsa_book.specs.declared.answer.DispatchAnswer.TheVariants as dispatch
use Rattle.dsa_book.specs.declared.answer.FetchAnswer.TheVariants as fetch
use Rattle.dsa_book.specs.declared.answer.StartAnswer.TheVariants as start
use Rattle.dsa_book.specs.declared.answer.FinishAnswer.TheVariants as finish
use Rattle.dsa_book.specs.declared.answer.IssueAnswer.TheVariants as issue
use Rattle.dsa_book.specs.declared.answer.PollAnswer.TheVariants as poll
use Rattle.dsa_book.specs.declared.answer.WriteAnswer.TheVariants as write
use Rattle.dsa_book.specs.declared.answer.ClearAnswer.TheVariants as clear
use Rattle.dsa_regs.specs.declared.Scope.TheVariants as scope
use Rattle.dsa_regs.specs.declared.layout.ListUse.TheVariants as list
use Rattle.std.proofs.Common.{arith, ◌≡◌, find, sym, ap, subst, ℕ, List, ◌++◌, Bool, true, false, cond, refl}
use Rattle.std.proofs.Common.{Option, Some, None, codes, unwrap_or, option_map}
use Rattle.std.specs.{Prelude.{⊤}, Option.{option_map_or}, Fmt.{digits}}
use Rattle.dsa_desc.specs.declared.{Descriptor.{Descriptor}, Outcome.{Outcome, TheVariants.{Success, PageFault}}}
use Rattle.dsa_desc.specs.Descriptor.{OperationRow, operation_row, pasid_of}
use Rattle.dsa_regs.specs.declared.{Fault.{Fault}, Command.{Command}, Scope.{Scope}, layout.ListUse.{ListUse}}
use Rattle.dsa_regs.specs.{Fault.{fault_name}, Command.{command_label, scope_of}}
use Rattle.dsa_book.specs.declared.event.{Event.{Event}, Portal.{Portal, TheVariants.{Limited, Unlimited}}}
use Rattle.dsa_book.specs.declared.event.Kind.{Kind, TheVariants.{Enqcmd, Movdir64b}}
use Rattle.dsa_book.specs.declared.answer.{Cause.{Cause, TheVariants.{AtLimit, NotEnabled, WrongKind}}, Reply.{Reply}}
use Rattle.dsa_book.specs.declared.answer.{SubmitAnswer.{SubmitAnswer}, DispatchAnswer.{DispatchAnswer}}
use Rattle.dsa_book.specs.declared.answer.{FetchAnswer.{FetchAnswer}, StartAnswer.{StartAnswer}}
use Rattle.dsa_book.specs.declared.answer.{FinishAnswer.{FinishAnswer}, IssueAnswer.{IssueAnswer}}
use Rattle.dsa_book.specs.declared.answer.{PollAnswer.{PollAnswer}, WriteAnswer.{WriteAnswer}}
use Rattle.dsa_book.specs.declared.answer.ClearAnswer.{ClearAnswer}
use Rattle.dsa_event_text.specs.Text.{operation_label, descriptor_text, scope_text, command_with_operand, list_text}
use Rattle.dsa_event_text.specs.Text.{portal_label, instruction_text, outcome_label, event_text}
use Rattle.dsa_scenario.specs.declared.run.Record.{Record, TheVariants.{Stepped, Refused}}
use Rattle.dsa_scenario.specs.Lines.{cause_text, refusal_text, overflow_text, reply_text, record_text, submit_text}
use Rattle.dsa_scenario.specs.Lines.{dispatch_text, fetch_text, start_text, finish_text, issue_text, poll_text}
use Rattle.dsa_scenario.specs.Lines.{write_text}
use Rattle.dsa_scenario.specs.Lines.{clear_text}
use Rattle.dsa_explain_lines.specs.Lines.{asked_words}
use Rattle.dsa_desc.specs.declared.QueueLimits.{QueueLimits}
use Rattle.dsa_desc.specs.Descriptor.{check, status}
use Rattle.dsa_store.specs.Content.{HeldEntry}
use Rattle.dsa_book.specs.State.{State, Work, is_ticket}
use Rattle.dsa_book.specs.Work.{last_status, finish_of, must_wait, after_end, running_on}
use Rattle.dsa_book.specs.{Machine.{reply_of, full_reply}, Choice.{Choice, choice_of}}
use Rattle.dsa_book.proofs.{EqualReplies.{equal-replies}, Nexts.{next-is}}
use Rattle.dsa_device.specs.Running.{Running, after_answer}
use Rattle.dsa_device.proofs.Steps.{answered_by_cases}
use Rattle.dsa_scenario.specs.{Lines.{two_digits}, Run.{Leads}}
use Rattle.dsa_conform.proofs.Printable.{Shown, joined, number, hex, parts}

-- ---- operations

-- the words of the row are printable, where there is one
abbrev pub IsNamed : (OperationRow → List ℕ) → Option OperationRow → Type 0
IsNamed words None = ⊤
IsNamed words (Some row) = Shown (words row)

pub first_named : (words : OperationRow → List ℕ) (t : Bool) (row : OperationRow) (rest : Option OperationRow)
    → Shown (words row) → IsNamed words rest → IsNamed words (cond t (Some row) rest)
first_named words true row rest p q = p
first_named words false row rest p q = q

named_or : (words : OperationRow → List ℕ) (row : Option OperationRow) (other : List ℕ) → IsNamed words row
    → Shown other → Shown (unwrap_or (option_map words row) other)
named_or words None other p q = q
named_or words (Some row) other p q = p

pub or_words : (words : OperationRow → List ℕ) (row : Option OperationRow) (other : List ℕ) → IsNamed words row
    → Shown other → Shown (option_map_or words row other)
or_words words None other p q = q
or_words words (Some row) other p q = p

operation : (op : ℕ) → Shown (operation_label op)
operation op =
    let word : OperationRow → List ℕ = λ (row : OperationRow). row.word in
    let named : IsNamed word (operation_row op) = search (first_named word) depth 12 in
    named_or word (operation_row op) (codes "operation 0x" ++ digits 16 false op) named (hex op)

descriptor : (d : Descriptor) → Shown (descriptor_text d)
descriptor d = search (parts, operation) depth 16

-- ---- commands

pub label : (c : Command) → Shown (command_label c)
label c = grind arith

operand : (s : Scope) → Shown (scope_text s)
operand scope.Device = refl
operand (scope.Queue queue) = number queue
operand (scope.Queues queues) = hex _
operand (scope.Pasid pasid) = number pasid

pub with_operand : (c : Command) → Shown (command_with_operand c)
with_operand c = joined (command_label c) (scope_text (scope_of c)) (label c) (operand (scope_of c))

pub list_words : (l : ListUse) → Shown (list_text l)
list_words (list.Queue queue) = number queue
list_words (list.Progress engine) = number engine
list_words (list.Members engine) = number engine

-- ---- events

pub portal : (p : Portal) → Shown (portal_label p)
portal Limited = refl
portal Unlimited = refl

instruction : (k : Kind) → Shown (instruction_text k)
instruction (Enqcmd pasid) = number (pasid_of pasid)
instruction Movdir64b = refl

outcome : (o : Outcome) → Shown (outcome_label o)
outcome Success = refl
outcome PageFault = refl

event_words : (e : Event) → Shown (event_text e)
event_words (event.Submit client queue p kind desc) = search (parts, portal, instruction, descriptor) depth 16
event_words (event.Dispatch engine) = number engine
event_words (event.Fetch engine desc) = search (parts, descriptor) depth 16
event_words (event.Start engine) = number engine
event_words (event.Finish engine ticket o) = search (parts, outcome) depth 16
event_words (event.Issue c) = with_operand c
event_words event.Poll = refl
event_words (event.WriteQueue queue config) = number queue
event_words (event.WriteGroup group config) = number group
event_words event.ClearError = refl

pub asked : (entry : Record) → Shown (asked_words entry)
asked (Stepped step) = event_words step.event
asked (Refused refused) = hex refused.word

-- ---- answers

cause : (c : Cause) → Shown (cause_text c)
cause AtLimit = refl
cause NotEnabled = refl
cause WrongKind = refl

fault_words : (f : Fault) → Shown (fault_name f)
fault_words f = grind arith

refusal : (f : Fault) → Shown (refusal_text f)
refusal f = search (parts, fault_words) depth 16

overflow : (b : Bool) → Shown (overflow_text b)
overflow true = refl
overflow false = refl

submit_words : (a : SubmitAnswer) → Shown (submit_text a)
submit_words (submit.Accepted ticket) = number ticket.name
submit_words (submit.Retry c) = cause c
submit_words (submit.Dropped c) = cause c
submit_words submit.Full = refl

dispatch_words : (a : DispatchAnswer) → Shown (dispatch_text a)
dispatch_words (dispatch.Taken ticket queue) = search parts depth 16
dispatch_words dispatch.Idle = refl
dispatch_words dispatch.Full = refl

fetch_words : (a : FetchAnswer) → Shown (fetch_text a)
fetch_words (fetch.Fetched ticket) = number ticket.name
fetch_words _ = refl

start_words : (a : StartAnswer) → Shown (start_text a)
start_words (start.Started ticket) = number ticket.name
start_words (start.Abandoned count) = number count
start_words _ = refl

issue_words : (a : IssueAnswer) → Shown (issue_text a)
issue_words (issue.Ended aborted) = number aborted
issue_words issue.Active = refl
issue_words (issue.Refused f) = refusal f
issue_words issue.Full = refl

poll_words : (a : PollAnswer) → Shown (poll_text a)
poll_words poll.Finished = refl
poll_words _ = refl

write_words : (a : WriteAnswer) → Shown (write_text a)
write_words write.Written = refl
write_words (write.Refused f) = refusal f
write_words write.Full = refl

clear_words : (a : ClearAnswer) → Shown (clear_text a)
clear_words (clear.Cleared noted) = search (parts, cause, overflow) depth 16
clear_words clear.Nothing = refl
clear_words clear.Full = refl

-- ---- the status that an entry ends with

Digits : ℕ → Type 0
Digits n = Shown (two_digits n)

row_or : (t : Bool) (n : ℕ) (rest : Option ℕ) (other : ℕ) → Digits n → Digits (unwrap_or rest other)
    → Digits (unwrap_or (cond t (Some n) rest) other)
row_or true n rest other p q = p
row_or false n rest other p q = q

either_digits : (t : Bool) (m n : ℕ) → Digits m → Digits n → Digits (cond t m n)
either_digits true m n p q = p
either_digits false m n p q = q

check_digits : (d : Descriptor) (limits : QueueLimits) (member : Bool) → Digits (check d limits member)
unfolding Digits
check_digits d limits member = search row_or depth 12

ended_digits : (d : Descriptor) (limits : QueueLimits) (member : Bool) (o : Outcome) → Digits (status d limits member o)
unfolding Digits
ended_digits d limits member o = search (row_or, check_digits) depth 12

last_digits : (w : Work) (e : ℕ) (pair : HeldEntry) (o : Outcome) → Digits (last_status w e pair o)
unfolding Digits
last_digits w e pair o = search (either_digits, ended_digits) depth 12

waiting : (t : Bool) (w after : Work) (n : ℕ) → Digits n
    → Shown (finish_text (unwrap_or {T = FinishAnswer × Work} (cond t (Some (finish.NotReady, w)) None)
    (finish.Done n, after)).0)
unfolding Digits
waiting true w after n p = refl
waiting false w after n p = p

found : (w : Work) (e : ℕ) (o : Outcome) (pair : Option HeldEntry) → Shown (finish_text (finish_of w e o pair).0)
found w e o None = refl
found w e o (Some pair) =
    waiting (must_wait w e pair.1) w (after_end w e pair o) (last_status w e pair o) (last_digits w e pair o)

-- ---- what the machine answers

machine_words : (s : State) (e : Event) (choice : Choice) → Shown (reply_text (reply_of s e choice).0)
machine_words s (event.Submit client q p kind desc) choice = submit_words _
machine_words s (event.Dispatch e) choice = dispatch_words _
machine_words s (event.Fetch e desc) choice = fetch_words _
machine_words s (event.Start e) choice = start_words _
machine_words s (event.Finish e ticket o) choice = found s.work e o (find (is_ticket ticket) (running_on s.work e))
machine_words s (event.Issue c) choice = issue_words _
machine_words s event.Poll choice = poll_words _
machine_words s (event.WriteQueue q config) choice = write_words _
machine_words s (event.WriteGroup g config) choice = write_words _
machine_words s event.ClearError choice = clear_words _

full_words : (e : Event) → Shown (reply_text (full_reply e))
full_words e = grind arith

step_words : (now after : Running) (e : Event) (r : Reply) → after_answer now e r ≡ Some after → Shown (reply_text r)
step_words now after e r is =
    answered_by_cases (λ _. Shown (reply_text r)) now after e r is
    (λ full told. subst (λ x. Shown (reply_text x)) (sym (equal-replies r (full_reply e) told)) (full_words e))
    (λ s free n.
    let choice = choice_of r in
    subst (λ x. Shown (reply_text x)) (ap (λ (p : Reply × State). p.0) (next-is now.state s e r n).1)
    (machine_words now.state e choice))

pub answer_words : (now after : Running) (entry : Record) → Leads now entry after → Shown (record_text entry)
answer_words now after (Stepped step) leads = step_words now after step.event step.reply leads
answer_words now after (Refused refused) leads = refusal refused.fault
