-- The facts against answers are printable.
use Rattle.dsa_book.specs.declared.event.Event.TheVariants as event
use Rattle.dsa_engines.specs.declared.reasons.FetchReason.TheVariants as fetch
use Rattle.dsa_engines.specs.declared.reasons.FinishReason.TheVariants as finish
use Rattle.dsa_admin.specs.declared.reasons.IssueReason.TheVariants as issue
use Rattle.dsa_admin.specs.declared.reasons.PollReason.TheVariants as poll
use Rattle.std.proofs.Common.{◌≡◌, ℕ, zero, suc, ◌==◌, ◌&&◌, List, [], ◌∷◌, ◌++◌, Bool, true, false, refl, unwrap_or}
use Rattle.std.proofs.Common.{Option, Some, None, Result, Ok, Err, codes, length, drop, cond, nat_lt, option_map}
use Rattle.std.proofs.lemmas.Bool.{and_parts}
use Rattle.std.specs.{List.{list_all, starts_with}, Option.{option_map_or}}
use Rattle.std.specs.Prelude.{bytes_eq, is_none, nat_eq, slice_get}
use Rattle.dsa_regs.specs.{declared.{Command.{Command}, layout.ListUse.{ListUse}}, Caps.{list_use}}
use Rattle.dsa_store.specs.Content.{list_of_cell}
use Rattle.dsa_book.specs.declared.answer.{Ticket.{Ticket}, NotedError.{NotedError}}
use Rattle.dsa_book.specs.declared.event.{Event.{Event}, Portal.{Portal}}
use Rattle.dsa_book.specs.declared.event.Kind.TheVariants.{Enqcmd}
use Rattle.dsa_book.specs.declared.note.ActiveCommand.{ActiveCommand}
use Rattle.dsa_book.specs.{State.{Intake, State, Work}, Work.{front_of, group_of_engine}, Machine.{intake_of}}
use Rattle.dsa_admin.specs.Command.{issue_reason}
use Rattle.dsa_queues.specs.{declared.reasons.SubmitReason.{SubmitReason}, Submission.{submit_reason}}
use Rattle.dsa_engines.specs.declared.reasons.{EngineReason.{EngineReason}, QueueReason.{QueueReason}}
use Rattle.dsa_engines.specs.{Batch.{name_of_entry}, Dispatch.{engine_reason, queue_reason}}
use Rattle.dsa_engines.specs.Finish.{fetched_count, member_total, finish_reason}
use Rattle.dsa_device.specs.Running.{Running}
use Rattle.dsa_scenario.specs.declared.{actions.BadWord.{BadWord}, run.Record.{Record}}
use Rattle.dsa_explain_lines.specs.Parts.{part_of, queue_keeping}
use Rattle.dsa_explain_lines.specs.Sentences.{submit_sentence, queue_sentence, fetch_sentence, finish_sentence}
use Rattle.dsa_explain_lines.specs.Sentences.{poll_sentence, wait_count, issue_sentence}
use Rattle.dsa_conform.specs.{Allowed.{offer, offers, queue_taken}, Quoted.{is_printable}, Seen.{Seen}}
use Rattle.dsa_conform.specs.Facts.{never_words, room_words, next_name_words, queue_count_words, not_of_group_words}
use Rattle.dsa_conform.specs.Facts.{front_is_words, may_take_words, may_start_words, waits_for_nothing_words}
use Rattle.dsa_conform.specs.Facts.{no_failure_words, removes_nothing_words, unlocked_words, noted_words}
use Rattle.dsa_conform.specs.Answers.{leading_word}
use Rattle.dsa_conform.specs.Against.{text_seen, kind_label, is_possible, is_refusal, reason_of_row, row_of_reason}
use Rattle.dsa_conform.specs.Against.{row_seen, passed_fact, name_taken, queue_named, queue_fact, taken_fact, idle_fact}
use Rattle.dsa_conform.specs.Against.{dispatch_fact, list_fact, finish_fact, issue_fact, ended_fact, noted_fact}
use Rattle.dsa_conform.specs.Against.{fetch_fact, late_fact, first_text, unmarked, checked_fact, event_fact, early_fact}
use Rattle.dsa_conform.specs.Against.{fact_against}
use Rattle.dsa_conform.proofs.Printable.{Shown, joined, chosen, number, parts}
use Rattle.dsa_conform.proofs.PrintableParts.{reason, queue_kept}
use Rattle.dsa_conform.proofs.PrintableReasons.{submit_words, engine_words, queue_words, fetch_words, finish_words}
use Rattle.dsa_conform.proofs.PrintableReasons.{issue_words, poll_words, wait_words}

-- what is told of a value, where there is one
of_some : {X : Type 0} (words : X → List ℕ) (o : Option X) → ((x : X) → Shown (words x))
    → Shown (option_map_or words o [])
of_some words None each = refl
of_some words (Some x) each = each x

one_of_two : (first second : List ℕ) → Shown first → Shown second → Shown (first_text first second)
one_of_two [] second p q = q
one_of_two (c ∷ cs) second p q = p

without : (n : ℕ) (text : List ℕ) → Shown text → Shown (drop n text)
without zero text p = p
without (suc n) [] p = refl
without (suc n) (c ∷ cs) p = without n cs (and_parts (is_printable c) (list_all is_printable cs) p).1

unmarked_shown : (part : List ℕ) → Shown part → Shown (unmarked part)
unmarked_shown part p = chosen (starts_with nat_eq part (codes ": ")) (drop 2 part) [] (without 2 part p) refl

-- ---- sentences

kind_shown : (e : Event) → Shown (kind_label e)
kind_shown (event.Submit client q p (Enqcmd pasid) desc) = refl
kind_shown _ = refl

never_shown : (kind : List ℕ) → Shown kind → Shown (never_words kind)
never_shown kind p = joined kind (codes " is answered so") p refl

room_shown : (capacity made : ℕ) → Shown (room_words capacity made)
room_shown capacity made = search parts depth 24

next_shown : (n : ℕ) → Shown (next_name_words n)
next_shown n = search parts depth 16

-- ---- steps

passed_shown : (i : Intake) (q : ℕ) (p : Portal) (seen decides : ℕ) → Shown (passed_fact i q p seen decides)
passed_shown i q p seen decides =
    chosen (nat_lt seen decides) (option_map_or (submit_sentence q) (reason_of_row i q p seen) []) []
    (of_some (submit_sentence q) (reason_of_row i q p seen) (submit_words q)) refl

queue_fact_shown : (w : Work) (e q : ℕ) (o : Option Record) (r : Option QueueReason) → Shown (queue_fact w e q o r)
queue_fact_shown w e q (Some entry) r =
    let words : Shown (front_is_words q (name_taken entry)) = search parts depth 16 in words
queue_fact_shown w e q None (Some r) =
    joined (queue_sentence q (name_of_entry (front_of w q)) r) (queue_keeping w r)
    (queue_words q (name_of_entry (front_of w q)) r) (queue_kept w r)
queue_fact_shown w e q None None =
    let words : Shown (not_of_group_words q (unwrap_or (group_of_engine w e) 0)) = search parts depth 16 in words

taken_shown : (w : Work) (e : ℕ) (r : Option EngineReason) (named : Option ℕ) → Shown (taken_fact w e r named)
taken_shown w e (Some r) named = engine_words e r
taken_shown w e None None =
    let words : Shown (queue_count_words w.setup.caps.queues) = search parts depth 16 in words
taken_shown w e None (Some q) = queue_fact_shown w e q (offer w e q) (queue_reason w e q)

idle_shown : (e : ℕ) (o : Option Record) → Shown (idle_fact e o)
idle_shown e None = refl
idle_shown e (Some entry) =
    let words : Shown (may_take_words e (name_taken entry) (queue_taken entry)) = search parts depth 24 in words

dispatch_shown : (w : Work) (e : ℕ) (text : List ℕ) → Shown (dispatch_fact w e text)
dispatch_shown w e text =
    let named = queue_named w.setup.caps.queues text in
    chosen (bytes_eq text (codes "idle")) (idle_fact e (slice_get (offers w e) 0))
    (taken_fact w e (engine_reason w e) named) (idle_shown e (slice_get (offers w e) 0))
    (taken_shown w e (engine_reason w e) named)

list_shown : (w : Work) (e : ℕ) (ticket : Ticket) → Shown (list_fact w e ticket)
list_shown w e ticket =
    of_some (λ list. finish_sentence e (finish.Elsewhere list))
    (option_map (list_use w.setup.caps) (list_of_cell w.content ticket.cell))
    (λ list. finish_words e (finish.Elsewhere list))

finish_shown : (w : Work) (e : ℕ) (ticket : Ticket) (text : List ℕ) → Shown (finish_fact w e ticket text)
finish_shown w e ticket text =
    let waits : Shown (waits_for_nothing_words ticket.name) = search parts depth 16 in
    let test = bytes_eq text (codes "not-ready") && is_none (finish_reason w e ticket) in
    chosen (bytes_eq text (codes "gone")) (list_fact w e ticket) (cond test (waits_for_nothing_words ticket.name) [])
    (list_shown w e ticket) (chosen test (waits_for_nothing_words ticket.name) [] waits refl)

issue_shown : (s : State) (c : Command) (text : List ℕ) → Shown (issue_fact s c text)
issue_shown s c text =
    let test = bytes_eq text (codes "active") && is_none (issue_reason s c) in
    chosen (bytes_eq text (codes "refused 17 Busy") && is_none s.active) (poll_sentence None poll.Nothing)
    (cond test (wait_count 0) []) refl (chosen test (wait_count 0) [] (wait_words 0) refl)

ended_shown : (active : Option ActiveCommand) → Shown (ended_fact active)
ended_shown active = of_some (λ (a : ActiveCommand). issue_sentence None (issue.Busy a.command 0)) active
    (λ a. issue_words None (issue.Busy a.command 0))

noted_shown : (noted : Option NotedError) → Shown (noted_fact noted)
noted_shown noted = of_some (λ (n : NotedError). noted_words n.queue) noted (λ n. search parts depth 16)

early_shown : (s : State) (e : Event) (seen : Seen) → Shown (early_fact s e seen)
early_shown s (event.Submit client q p kind desc) seen =
    passed_shown (intake_of s) q p (row_seen seen.answer seen.zf) (row_of_reason (submit_reason (intake_of s) q p kind))
early_shown s (event.Dispatch e) seen = dispatch_shown s.work e (text_seen seen)
early_shown s (event.Finish e ticket o) seen = finish_shown s.work e ticket (text_seen seen)
early_shown s (event.Issue c) seen = issue_shown s c (text_seen seen)
early_shown s _ seen = refl

fetch_shown : (w : Work) (e : ℕ) (text : List ℕ) → Shown (fetch_fact w e text)
fetch_shown w e text =
    let left = fetch.AllFetched (member_total w e) (fetched_count w e) false in
    chosen (bytes_eq (leading_word text) (codes "fetched")) (next_name_words w.setup.next_name) (fetch_sentence e left)
    (next_shown w.setup.next_name) (fetch_words e left)

late_shown : (s : State) (e : Event) (seen : Seen) → Shown (late_fact s e seen)
late_shown s (event.Submit client q p kind desc) seen = next_shown s.work.setup.next_name
late_shown s (event.Fetch e desc) seen = fetch_shown s.work e (text_seen seen)
late_shown s (event.Start e) seen = let words : Shown (may_start_words e) = search parts depth 16 in words
late_shown s (event.Finish e ticket o) seen =
    let words : Shown (no_failure_words ticket.name) = search parts depth 16 in words
late_shown s event.Poll seen = ended_shown s.active
late_shown s event.ClearError seen = noted_shown s.work.setup.noted
late_shown s _ seen = refl

checked_shown : (s : State) (e : Event) (seen : Seen) (part : List ℕ) → Shown part → Shown (checked_fact s e seen part)
checked_shown s e seen part p =
    one_of_two (early_fact s e seen) (first_text (unmarked part) (late_fact s e seen)) (early_shown s e seen)
    (one_of_two (unmarked part) (late_fact s e seen) (unmarked_shown part p) (late_shown s e seen))

step_shown : (now : Running) (e : Event) (seen : Seen) (part : List ℕ) → Shown part → Shown (event_fact now e seen part)
step_shown now e seen part p =
    let room = room_words now.capacity (length now.history) in
    let is_full = bytes_eq (text_seen seen) (codes "full") in
    chosen (length now.history == now.capacity) (unmarked part) (cond is_full room (checked_fact now.state e seen part))
    (unmarked_shown part p)
    (chosen is_full room (checked_fact now.state e seen part) (room_shown now.capacity (length now.history))
    (checked_shown now.state e seen part p))

pub fact_shown : (now : Running) (asked : Result Event BadWord) (seen : Seen) → Shown (fact_against now asked seen)
fact_shown now (Err refused) seen =
    let part = part_of now (Err refused) in
    chosen (is_refusal seen) (unmarked part) (never_words (codes "command"))
    (unmarked_shown part (reason now (Err refused))) refl
fact_shown now (Ok e) seen =
    let part = part_of now (Ok e) in
    chosen (is_possible e seen) (event_fact now e seen part) (never_words (kind_label e))
    (step_shown now e seen part (reason now (Ok e))) (never_shown (kind_label e) (kind_shown e))
