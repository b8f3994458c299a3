-- What is told after an answer is printable.
use Rattle.dsa_book.specs.declared.event.Event.TheVariants as event
use Rattle.dsa_engines.specs.declared.reasons.QueueReason.TheVariants as queue
use Rattle.dsa_engines.specs.declared.reasons.StartReason.TheVariants as start
use Rattle.dsa_regs.specs.declared.Deed.TheVariants as deed
use Rattle.std.proofs.Common.{◌==◌, ◌/◌, ◌%◌, ◌^◌, ℕ, List, [], ◌∷◌, ◌++◌, refl}
use Rattle.std.proofs.Common.{Option, Some, None, Result, Ok, Err, codes, flat_map, length, nat_lt}
use Rattle.dsa_base.specs.Numbers.{numbers_below}
use Rattle.dsa_desc.specs.declared.Outcome.{Outcome}
use Rattle.dsa_regs.specs.declared.{Fault.{Fault}, Command.{Command}, Deed.{Deed}}
use Rattle.dsa_regs.specs.Command.{deed_of}
use Rattle.dsa_book.specs.declared.{answer.Ticket.{Ticket}, event.Event.{Event}, fate.Fate.{Fate}}
use Rattle.dsa_book.specs.{State.{Work, State}}
use Rattle.dsa_admin.specs.declared.reasons.IssueReason.{IssueReason}
use Rattle.dsa_engines.specs.declared.reasons.{EngineReason.{EngineReason}, QueueReason.{QueueReason}}
use Rattle.dsa_engines.specs.declared.reasons.{StartReason.{StartReason}, FinishReason.{FinishReason}}
use Rattle.dsa_engines.specs.{Dispatch.{engine_reason, queue_reason}, Finish.{finish_reason}}
use Rattle.dsa_engines.specs.Batch.{fetch_reason, start_reason}
use Rattle.dsa_admin.specs.Command.{issue_reason, poll_reason}
use Rattle.dsa_queues.specs.{Submission.{submit_reason}, Write.{write_queue_reason, write_group_reason, clear_reason}}
use Rattle.dsa_book.specs.Machine.{intake_of}
use Rattle.dsa_explain.specs.{Held.{awaited_entry, awaited_lists, NamedList, losses}, Wait.{noted_as, wait_reason}}
use Rattle.dsa_explain.specs.Done.{done_reason}
use Rattle.dsa_device.specs.Running.{Running}
use Rattle.dsa_explain_lines.specs.Sentences.{submit_sentence, fetch_sentence, poll_sentence}
use Rattle.dsa_explain_lines.specs.Sentences.{no_engine, no_queue, wait_count, list_words, done_sentence}
use Rattle.dsa_explain_lines.specs.Sentences.{write_sentence, clear_sentence}
use Rattle.dsa_explain.specs.declared.awaiting.WaitReason.{WaitReason}
use Rattle.dsa_explain_lines.specs.Parts.{told_of, kept_part, keeping_part, queue_keeping, start_keeping, joint}
use Rattle.dsa_explain_lines.specs.Parts.{queue_part_of, queue_part, dispatch_part_of, start_part_of}
use Rattle.dsa_explain_lines.specs.Parts.{start_part, gone_words, unended_words, finish_part_of}
use Rattle.dsa_explain_lines.specs.Parts.{any_reason, lists_part, wait_part_of, deed_part, issue_part_of, event_part}
use Rattle.dsa_explain_lines.specs.Parts.{no_command_part, room_part, names_part, full_part, part_of}
use Rattle.dsa_conform.proofs.Printable.{Shown, joined, chosen, listed, number, parts}
use Rattle.dsa_conform.proofs.PrintableReasons.{kept, submit_words, engine_words, queue_words, fetch_words, start_words}
use Rattle.dsa_conform.proofs.PrintableReasons.{finish_words, done_words, fate, unnamed, issue_words}
use Rattle.dsa_conform.proofs.PrintableReasons.{poll_words, wait_words, named_list, queueless, write_words, clear_words}
use Rattle.dsa_scenario.specs.declared.actions.BadWord.{BadWord}

told : {R : Type 0} (sentence : R → List ℕ) (reason : Option R) → ((r : R) → Shown (sentence r))
    → Shown (told_of sentence reason)
told sentence None each = refl
told sentence (Some r) each = each r

-- ---- read buffers that are kept

keeping : (w : Work) (g : ℕ) → Shown (keeping_part w g)
keeping w g = listed (kept_part w g) (numbers_below w.setup.caps.groups) (λ other. search (chosen, kept) depth 8)

pub queue_kept : (w : Work) (r : QueueReason) → Shown (queue_keeping w r)
queue_kept w (queue.NoBuffers want) = keeping w want.group
queue_kept w _ = refl

start_kept : (w : Work) (r : StartReason) → Shown (start_keeping w r)
start_kept w (start.NoBuffers want) = keeping w want.group
start_kept w _ = refl

-- ---- engines

joint_words : (w : Work) (e q : ℕ) → Shown (joint w e q)
joint_words w e q = search (chosen) depth 8

queue_told : (w : Work) (e q : ℕ) (r : Option QueueReason) → Shown (queue_part_of w e q r)
queue_told w e q None = refl
queue_told w e q (Some r) = search (joined, joint_words, queue_words, queue_kept) depth 16

dispatch_told : (w : Work) (e : ℕ) (r : Option EngineReason) → Shown (dispatch_part_of w e r)
dispatch_told w e (Some r) = engine_words e r
dispatch_told w e None = chosen (any_reason w e w.setup.caps.queues)
    (flat_map (queue_part w e) (numbers_below w.setup.caps.queues)) (codes ": " ++ no_queue e)
    (listed (queue_part w e) (numbers_below w.setup.caps.queues) (λ q. queue_told w e q (queue_reason w e q)))
    (queueless e)

start_told : (w : Work) (e : ℕ) (r : Option StartReason) → Shown (start_part_of w e r)
start_told w e None = refl
start_told w e (Some r) = search (joined, start_words, start_kept) depth 16

started : (w : Work) (e : ℕ) → Shown (start_part w e)
started w e = chosen (nat_lt e w.setup.caps.engines) (start_part_of w e (start_reason w e)) (codes ": " ++ no_engine e)
    (start_told w e (start_reason w e)) (number e)

gone : (w : Work) (e : ℕ) (ticket : Ticket) (r : FinishReason) (f : Option Fate) → Shown (gone_words w e ticket r f)
gone w e ticket r (Some f) = fate ticket.name f
gone w e ticket r None = search (chosen, finish_words, unnamed) depth 8

unended : (w : Work) (e : ℕ) (ticket : Ticket) (r : FinishReason) → Shown (unended_words w e ticket r)
unended w e ticket r = search (chosen, gone, finish_words) depth 8

finish_told : (w : Work) (e : ℕ) (ticket : Ticket) (o : Outcome) (r : Option FinishReason)
    → Shown (finish_part_of w e ticket o r)
finish_told w e ticket o (Some r) = unended w e ticket r
finish_told w e ticket o None = told done_sentence (done_reason w e ticket o) done_words

-- ---- commands

lists : (verb mark : List ℕ) (ls : List NamedList) → Shown verb → Shown mark → Shown (lists_part verb mark ls)
lists verb mark [] v p = refl
lists verb mark (l ∷ ls) v p = joined (list_words mark verb l.0 l.1) (lists_part verb (codes "; ") ls)
    (named_list mark verb l.0 l.1 p v) (lists verb (codes "; ") ls v refl)

waited : (s : State) (c : Command) (r : Option WaitReason) → Shown (wait_part_of s c r)
waited s c None = refl
waited s c (Some r) =
    let names = awaited_lists (noted_as s c) s in
    joined (codes ": " ++ wait_count r.awaited) (lists_part (codes ": ") (codes ", ") names) (wait_words r.awaited)
    (lists (codes ": ") (codes ", ") names refl refl)

deed_told : (s : State) (c : Command) (d : Deed) → Shown (deed_part s c d)
deed_told s c deed.Enable = waited s c (wait_reason s c)
deed_told s c deed.Disable = waited s c (wait_reason s c)
deed_told s c deed.Drain = waited s c (wait_reason s c)
deed_told s c deed.Abort = lists (codes " loses ") (codes ": ") (losses s c) refl refl
deed_told s c deed.Reset = lists (codes " loses ") (codes ": ") (losses s c) refl refl

issue_told : (s : State) (c : Command) (r : Option IssueReason) → Shown (issue_part_of s c r)
issue_told s c None = deed_told s c (deed_of c)
issue_told s c (Some r) = issue_words (awaited_entry s) r

-- ---- any event

event_told : (s : State) (e : Event) → Shown (event_part s e)
event_told s (event.Submit client q portal kind desc) =
    told (submit_sentence q) (submit_reason (intake_of s) q portal kind) (submit_words q)
event_told s (event.Dispatch e) = dispatch_told s.work e (engine_reason s.work e)
event_told s (event.Fetch e desc) = told (fetch_sentence e) (fetch_reason s.work e) (fetch_words e)
event_told s (event.Start e) = started s.work e
event_told s (event.Finish e ticket o) = finish_told s.work e ticket o (finish_reason s.work e ticket)
event_told s (event.Issue c) = issue_told s c (issue_reason s c)
event_told s event.Poll = told (poll_sentence (awaited_entry s)) (poll_reason s) (poll_words (awaited_entry s))
event_told s (event.WriteQueue q config) =
    told (write_sentence (codes "queue") (codes "queues")) (write_queue_reason s.work.setup q config)
    (λ r. write_words (codes "queue") (codes "queues") r refl refl)
event_told s (event.WriteGroup g config) =
    told (write_sentence (codes "group") (codes "groups")) (write_group_reason s.work.setup g)
    (λ r. write_words (codes "group") (codes "groups") r refl refl)
event_told s event.ClearError = told clear_sentence (clear_reason s.work.setup.noted) clear_words

room : (n : ℕ) → Shown (room_part n)
room n = search parts depth 16

full : (now : Running) → Shown (full_part now)
full now =
    joined (room_part now.capacity) (names_part now) (room now.capacity)
    (chosen (nat_lt now.capacity now.room) (codes ", as many as names were left") [] refl refl)

no_command : (number reserved : ℕ) → Shown (no_command_part number reserved)
no_command number reserved = search parts depth 16

pub reason : (now : Running) (asked : Result Event BadWord) → Shown (part_of now asked)
reason now (Err refused) = no_command (refused.word / 2 ^ 20 % 2 ^ 5) (refused.word / 2 ^ 25 % 2 ^ 6)
reason now (Ok e) =
    chosen (length now.history == now.capacity) (full_part now) (event_part now.state e) (full now)
    (event_told now.state e)
