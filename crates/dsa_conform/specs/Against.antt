-- Which fact of a device speaks against an answer that was seen.
use Rattle.dsa_book.specs.declared.event.Event.TheVariants as event
use Rattle.dsa_book.specs.declared.answer.Reply.TheVariants as reply
use Rattle.dsa_engines.specs.declared.reasons.FetchReason.TheVariants as fetch
use Rattle.dsa_engines.specs.declared.reasons.FinishReason.TheVariants as finish
use Rattle.dsa_admin.specs.declared.reasons.IssueReason.TheVariants as issue
use Rattle.dsa_admin.specs.declared.reasons.PollReason.TheVariants as poll
use Rattle.std.specs.Prelude.{ℕ, ◌==◌, ◌&&◌, ◌||◌, Bool, true, false, cond, nat_eq, nat_lt, List, [], ◌∷◌, ◌++◌, codes, decimal}
use Rattle.std.specs.Prelude.{bytes_eq, drop, length, find, slice_get, min, option_map, unwrap_or, is_none, Option, Some, None}
use Rattle.std.specs.Prelude.{Result, Ok, Err}
use Rattle.std.specs.List.{starts_with, ends_with}
use Rattle.std.specs.Option.{option_map_or}
use Rattle.dsa_base.specs.Numbers.{numbers_below}
use Rattle.dsa_regs.specs.{declared.{Command.{Command}}, Caps.{list_use}}
use Rattle.dsa_store.specs.Content.{list_of_cell}
use Rattle.dsa_book.specs.declared.event.{Event.{Event}, Portal.{Portal}, Kind.{TheVariants.{Enqcmd, Movdir64b}}}
use Rattle.dsa_book.specs.declared.answer.{Ticket.{Ticket}, Reply.{Reply}, DispatchAnswer.TheVariants.{Taken}, NotedError.{NotedError}}
use Rattle.dsa_book.specs.{State.{Intake, Work, State, has_queue}, Work.{front_of, group_of_engine}, Machine.{intake_of}}
use Rattle.dsa_book.specs.declared.note.ActiveCommand.{ActiveCommand}
use Rattle.dsa_admin.specs.Command.{issue_reason}
use Rattle.dsa_queues.specs.declared.reasons.SubmitReason.{SubmitReason, TheVariants.{NotEnabled, WrongKind, AtLimit}}
use Rattle.dsa_queues.specs.Submission.{submit_reason, submit_reasons}
use Rattle.dsa_engines.specs.declared.reasons.{EngineReason.{EngineReason}, QueueReason.{QueueReason}}
use Rattle.dsa_engines.specs.{Dispatch.{engine_reason, queue_reason}, Batch.{name_of_entry}}
use Rattle.dsa_engines.specs.Finish.{fetched_count, member_total, finish_reason}
use Rattle.dsa_device.specs.Running.{Running}
use Rattle.dsa_scenario.specs.declared.{actions.BadWord.{BadWord}}
use Rattle.dsa_scenario.specs.declared.run.Record.{Record, TheVariants.{Stepped, Refused}}
use Rattle.dsa_explain_lines.specs.Parts.{part_of, queue_keeping}
use Rattle.dsa_explain_lines.specs.Sentences.{submit_sentence, engine_sentence, queue_sentence, fetch_sentence}
use Rattle.dsa_explain_lines.specs.Sentences.{finish_sentence, issue_sentence, poll_sentence, wait_count}
use Rattle.dsa_conform.specs.Allowed.{offer, offers, queue_taken}
use Rattle.dsa_conform.specs.Answers.{is_answer_to, is_refusal_text, leading_word}
use Rattle.dsa_conform.specs.Facts.{never_words, room_words, next_name_words, queue_count_words, not_of_group_words}
use Rattle.dsa_conform.specs.Facts.{may_take_words, may_start_words, waits_for_nothing_words, no_failure_words}
use Rattle.dsa_conform.specs.Facts.{removes_nothing_words, unlocked_words, noted_words, front_is_words}
use Rattle.dsa_conform.specs.Seen.{Seen}

-- ---- answers that a step may have

-- the text of the answer that was seen, where one was
abbrev pub text_seen : Seen → List ℕ
text_seen seen = unwrap_or seen.answer []

-- the step reports a zero flag
abbrev pub reports_zf : Event → Bool
reports_zf (event.Submit client queue portal (Enqcmd pasid) desc) = true
reports_zf e = false

abbrev pub may_have_answer : Event → Option (List ℕ) → Bool
may_have_answer e None = true
may_have_answer e (Some text) = is_answer_to e text

abbrev pub may_report : Event → Option Bool → Bool
may_report e None = true
may_report e (Some flag) = reports_zf e

-- a step of this kind may be answered so
abbrev pub is_possible : Event → Seen → Bool
is_possible e seen = may_have_answer e seen.answer && may_report e seen.zf

-- a word that is no command is always refused
abbrev pub is_refusal : Seen → Bool
is_refusal seen = is_refusal_text (text_seen seen) && is_none seen.zf

abbrev pub kind_label : Event → List ℕ
kind_label (event.Submit client queue portal (Enqcmd pasid) desc) = codes "enqcmd"
kind_label (event.Submit client queue portal Movdir64b desc) = codes "movdir"
kind_label (event.Dispatch engine) = codes "dispatch"
kind_label (event.Fetch engine desc) = codes "fetch"
kind_label (event.Start engine) = codes "start"
kind_label (event.Finish engine ticket outcome) = codes "finish"
kind_label (event.Issue command) = codes "command"
kind_label event.Poll = codes "poll"
kind_label (event.WriteQueue queue config) = codes "queue"
kind_label (event.WriteGroup group config) = codes "group"
kind_label event.ClearError = codes "clear"

-- ---- submissions

-- the row of the table of a submission that decides by such an answer; 3 where none does
abbrev pub row_of_text : List ℕ → ℕ
row_of_text text =
    cond (bytes_eq text (codes "retry not-enabled") || bytes_eq text (codes "dropped not-enabled")) 0
    (cond (bytes_eq text (codes "retry wrong-kind") || bytes_eq text (codes "dropped wrong-kind")) 1
    (cond (bytes_eq text (codes "retry at-limit") || bytes_eq text (codes "dropped at-limit")) 2 3))

-- the same with the zero flag, which is set where a row decides: by itself it counts as the last
abbrev pub row_seen : Option (List ℕ) → Option Bool → ℕ
row_seen (Some text) (Some true) = min (row_of_text text) 2
row_seen (Some text) zf = row_of_text text
row_seen None (Some true) = 2
row_seen None zf = 3

-- the row that does decide
abbrev pub row_of_reason : Option SubmitReason → ℕ
row_of_reason (Some (NotEnabled device queue)) = 0
row_of_reason (Some (WrongKind dedicated)) = 1
row_of_reason (Some (AtLimit occupancy limit portal)) = 2
row_of_reason None = 3

-- what the row looks at, where the device has the queue
abbrev pub reason_of_row : Intake → ℕ → Portal → ℕ → Option SubmitReason
reason_of_row i q portal row = cond (has_queue i.setup q) (slice_get (submit_reasons i q portal) row) None

-- a row was passed that decides by what was seen
abbrev pub passed_fact : Intake → ℕ → Portal → ℕ → ℕ → List ℕ
passed_fact i q portal seen decides = cond (nat_lt seen decides)
    (option_map_or (submit_sentence q) (reason_of_row i q portal seen) []) []

-- ---- dispatch

abbrev pub name_of_reply : Reply → ℕ
name_of_reply (reply.Dispatch (Taken ticket queue)) = ticket.name
name_of_reply _ = 0

-- the name of the entry that is taken, and of any other answer 0
abbrev pub name_taken : Record → ℕ
name_taken (Stepped step) = name_of_reply step.reply
name_taken (Refused fault) = 0

-- the text ends with this queue
abbrev pub ends_with_queue : List ℕ → ℕ → Bool
ends_with_queue text q = ends_with nat_eq text (codes " from " ++ decimal q)

-- the queue of the device that the text ends with
abbrev pub queue_named : ℕ → List ℕ → Option ℕ
queue_named queues text = find (ends_with_queue text) (numbers_below queues)

-- why the engine does not take another entry than it may, or none, from this queue
abbrev pub queue_fact : Work → ℕ → ℕ → Option Record → Option QueueReason → List ℕ
queue_fact w e q (Some entry) reason = front_is_words q (name_taken entry)
queue_fact w e q None (Some reason) =
    queue_sentence q (name_of_entry (front_of w q)) reason ++ queue_keeping w reason
queue_fact w e q None None = not_of_group_words q (unwrap_or (group_of_engine w e) 0)

abbrev pub taken_fact : Work → ℕ → Option EngineReason → Option ℕ → List ℕ
taken_fact w e (Some reason) named = engine_sentence e reason
taken_fact w e None None = queue_count_words w.setup.caps.queues
taken_fact w e None (Some q) = queue_fact w e q (offer w e q) (queue_reason w e q)

-- what an idle engine might take first
abbrev pub idle_fact : ℕ → Option Record → List ℕ
idle_fact e None = []
idle_fact e (Some entry) = may_take_words e (name_taken entry) (queue_taken entry)

abbrev pub dispatch_fact : Work → ℕ → List ℕ → List ℕ
dispatch_fact w e text = cond (bytes_eq text (codes "idle")) (idle_fact e (slice_get (offers w e) 0))
    (taken_fact w e (engine_reason w e) (queue_named w.setup.caps.queues text))

-- ---- finish

-- the list that the entry of the ticket stands in
abbrev pub list_fact : Work → ℕ → Ticket → List ℕ
list_fact w e ticket = option_map_or (λ list. finish_sentence e (finish.Elsewhere list))
    (option_map (list_use w.setup.caps) (list_of_cell w.content ticket.cell)) []

abbrev pub finish_fact : Work → ℕ → Ticket → List ℕ → List ℕ
finish_fact w e ticket text = cond (bytes_eq text (codes "gone")) (list_fact w e ticket)
    (cond (bytes_eq text (codes "not-ready") && is_none (finish_reason w e ticket))
    (waits_for_nothing_words ticket.name) [])

-- ---- commands

abbrev pub issue_fact : State → Command → List ℕ → List ℕ
issue_fact s command text = cond (bytes_eq text (codes "refused 17 Busy") && is_none s.active)
    (poll_sentence None poll.Nothing)
    (cond (bytes_eq text (codes "active") && is_none (issue_reason s command)) (wait_count 0) [])

-- the active command is at its end
abbrev pub ended_fact : Option ActiveCommand → List ℕ
ended_fact active = option_map_or (λ (a : ActiveCommand). issue_sentence None (issue.Busy a.command 0)) active []

abbrev pub noted_fact : Option NotedError → List ℕ
noted_fact noted = option_map_or (λ (n : NotedError). noted_words n.queue) noted []

-- ---- any step

-- a fact of what is checked before that which decides
abbrev pub early_fact : State → Event → Seen → List ℕ
early_fact s (event.Submit client queue portal kind desc) seen =
    passed_fact (intake_of s) queue portal (row_seen seen.answer seen.zf)
    (row_of_reason (submit_reason (intake_of s) queue portal kind))
early_fact s (event.Dispatch engine) seen = dispatch_fact s.work engine (text_seen seen)
early_fact s (event.Finish engine ticket outcome) seen = finish_fact s.work engine ticket (text_seen seen)
early_fact s (event.Issue command) seen = issue_fact s command (text_seen seen)
early_fact s _ seen = []

-- members are left to be fetched, or the next one has another name
abbrev pub fetch_fact : Work → ℕ → List ℕ → List ℕ
fetch_fact w e text = cond (bytes_eq (leading_word text) (codes "fetched")) (next_name_words w.setup.next_name)
    (fetch_sentence e (fetch.AllFetched (member_total w e) (fetched_count w e) false))

-- a fact by which the step is not turned down
abbrev pub late_fact : State → Event → Seen → List ℕ
late_fact s (event.Submit client queue portal kind desc) seen = next_name_words s.work.setup.next_name
late_fact s (event.Dispatch engine) seen = []
late_fact s (event.Fetch engine desc) seen = fetch_fact s.work engine (text_seen seen)
late_fact s (event.Start engine) seen = may_start_words engine
late_fact s (event.Finish engine ticket outcome) seen = no_failure_words ticket.name
late_fact s (event.Issue command) seen = removes_nothing_words
late_fact s event.Poll seen = ended_fact s.active
late_fact s (event.WriteQueue queue config) seen = unlocked_words
late_fact s (event.WriteGroup group config) seen = unlocked_words
late_fact s event.ClearError seen = noted_fact s.work.setup.noted

-- the first text, or the second where the first is empty
abbrev pub first_text : List ℕ → List ℕ → List ℕ
first_text [] second = second
first_text (c ∷ cs) second = c ∷ cs

-- what a part of a line tells, without its mark
abbrev pub unmarked : List ℕ → List ℕ
unmarked part = cond (starts_with nat_eq part (codes ": ")) (drop 2 part) []

-- the first fact in the order in which the device checks: one that was passed, the one that decides, or that none does
abbrev pub checked_fact : State → Event → Seen → List ℕ → List ℕ
checked_fact s e seen part = first_text (early_fact s e seen) (first_text (unmarked part) (late_fact s e seen))

-- before all of them comes the room of the history
abbrev pub event_fact : Running → Event → Seen → List ℕ → List ℕ
event_fact now e seen part = cond (length now.history == now.capacity) (unmarked part)
    (cond (bytes_eq (text_seen seen) (codes "full")) (room_words now.capacity (length now.history))
    (checked_fact now.state e seen part))

-- the fact of a device that stands so which speaks against what was seen of its answer (profile)
abbrev pub fact_against : Running → Result Event BadWord → Seen → List ℕ
fact_against now (Err refused) seen =
    cond (is_refusal seen) (unmarked (part_of now (Err refused))) (never_words (codes "command"))
fact_against now (Ok e) seen =
    cond (is_possible e seen) (event_fact now e seen (part_of now (Ok e))) (never_words (kind_label e))
