-- Fates of long ago: no step looks at them, and each step leaves them.
use Rattle.dsa_book.specs.declared.event.Event.TheVariants as event
use Rattle.dsa_book.specs.declared.fate.Fate.TheVariants as fate
use Rattle.std.proofs.Common.{◌≡◌, ◌≤◌, ℕ, ◌+◌, Bool, true, false, cond, List, [], ◌∷◌, ◌++◌, length, Option, Some, None}
use Rattle.std.proofs.Common.{option_and_then, refl, ap, ◌∙◌, arith, ◌&&◌, not, length-append, map, append_assoc, append-nil}
use Rattle.std.specs.Prelude.{find, filter, option_map, is_some}
use Rattle.dsa_base.specs.Rows.{first_row_or, when}
use Rattle.dsa_desc.specs.declared.{Descriptor.{Descriptor}, Outcome.{Outcome}}
use Rattle.dsa_regs.specs.declared.{Deed.{Deed, TheVariants.{Enable, Disable, Drain, Abort, Reset}}, Command.{Command}}
use Rattle.dsa_regs.specs.declared.{Phase.{Phase, TheVariants.{Off, Stopping}}, Scope.{Scope}, Caps.{Caps}, Fault.{Fault, TheVariants.{Busy, BadQueue, WrongState}}}
use Rattle.dsa_desc.specs.Descriptor.{is_fenced}
use Rattle.dsa_regs.specs.Command.{scope_of, deed_of, number_of_command}
use Rattle.dsa_store.specs.{declared.entry.Cell.{Cell}, Content.{HeldEntry, held_count, all_held}}
use Rattle.dsa_book.specs.declared.{fate.FateRow.{FateRow}, event.Step.{Step}}
use Rattle.dsa_book.specs.declared.answer.Reply.{Reply, TheVariants.{Fetch, Dispatch, Start, Finish, Issue, Poll}}
use Rattle.dsa_book.specs.declared.answer.{FetchAnswer.{FetchAnswer, TheVariants.{AllFetched}}, IssueAnswer.{IssueAnswer, TheVariants.{Active, Refused}}}
use Rattle.dsa_book.specs.declared.answer.{StartAnswer.{StartAnswer, TheVariants.{FenceWait, Abandoned, NoBuffers, Started}}}
use Rattle.dsa_book.specs.declared.answer.FinishAnswer.{FinishAnswer, TheVariants.{Done, NotReady}}
use Rattle.dsa_book.specs.declared.answer.PollAnswer.{PollAnswer, TheVariants.{Finished}}
use Rattle.dsa_book.specs.declared.answer.PollAnswer.TheVariants as poll_answer
use Rattle.dsa_book.specs.declared.event.Event.{Event, TheVariants.{Submit, WriteQueue, WriteGroup, ClearError}}
use Rattle.dsa_book.specs.declared.note.{ActiveCommand.{ActiveCommand}, BatchNote.{BatchNote}}
use Rattle.dsa_book.specs.{Choice.{Choice, choice_of, chosen_cell, nothing, in_cell, from_queue}, Same.{same_reply}}
use Rattle.dsa_book.specs.Commands.{issue, poll_of, deed_done_of, wait_of, refusal_or, is_at_end, command_done_of}
use Rattle.dsa_book.specs.Commands.{check_of, is_bad_queues, may_come, is_in_scope, after_stop, after_abort, abort_of, end_at_once, work_with_setup}
use Rattle.dsa_book.specs.Commands.{reset}
use Rattle.dsa_book.specs.State.{State, Setup, Work, is_ticket, need_of, ticket_of_entry}
use Rattle.dsa_book.specs.Work.{finish_of, must_wait, fetch_of, fetch_for, is_all_fetched, batch_on, dispatch_of, front_of}
use Rattle.dsa_book.specs.Work.{start_of, first_waiting, running_on, note_at, members, fate_row, last_status, may_leave}
use Rattle.dsa_book.specs.Work.{after_abandon, after_end, after_fetch, after_start, is_front, has_failed_member, has_room}
use Rattle.dsa_book.specs.Machine.{next, with_work, may_choose, reply_of, reply_with, replay, is_stored}
use Rattle.dsa_book.proofs.Replay.{replay-snoc}
use Rattle.dsa_laws.specs.{Forgotten.{with_past_fates, IsLawful}, Change.{Change}}
use Rattle.dsa_laws.proofs.{Effects.{by_effect}, Changes.{next-change, next_keeps}, Histories.{replay-well_formed}}

-- ---- the state with fates of long ago

pub past-none : (s : State) → with_past_fates [] s ≡ s
past-none s = refl

pub past-append : (xs ys : List FateRow) (s : State)
    → with_past_fates (xs ++ ys) s ≡ with_past_fates xs (with_past_fates ys s)
past-append xs ys s =
    ap (λ (rows : List FateRow). with_work s (record s.work { fates = rows })) (append_assoc xs ys s.work.fates)

-- its own fates may be counted among those of long ago
pub past-emptied : (xs : List FateRow) (s : State)
    → with_past_fates (xs ++ s.work.fates) (with_work s (record s.work { fates = [] })) ≡ with_past_fates xs s
past-emptied xs s = ap (λ (rows : List FateRow). with_work s (record s.work { fates = rows }))
    (append-nil (xs ++ s.work.fates))

-- ---- the replies

-- a reply, and the state with fates of long ago
abbrev past_reply : List FateRow → Reply × State → Reply × State
past_reply past r = (r.0, with_past_fates past r.1)

-- new rows come after those of long ago
added : (past new : List FateRow) (reply : Reply) (s : State) (w : Work)
    → (reply, with_work s (record w { fates = (past ++ s.work.fates) ++ new }))
    ≡ past_reply past (reply, with_work s (record w { fates = s.work.fates ++ new }))
added past new reply s w = ap (λ (rows : List FateRow). (reply, with_work s (record w { fates = rows })))
    (append_assoc past s.work.fates new)

dispatch_of-past : (past : List FateRow) (s : State) (e q : ℕ) (o : Option HeldEntry)
    → reply_with Dispatch (with_work (with_past_fates past s)) (dispatch_of (with_past_fates past s).work e q o)
    ≡ past_reply past (reply_with Dispatch (with_work s) (dispatch_of s.work e q o))
dispatch_of-past past s e q None = refl
dispatch_of-past past s e q (Some front) = refl

dispatch-past : (past : List FateRow) (s : State) (e : ℕ) (choice : Choice)
    → reply_of (with_past_fates past s) (event.Dispatch e) choice
    ≡ past_reply past (reply_of s (event.Dispatch e) choice)
dispatch-past past s e nothing = refl
dispatch-past past s e (in_cell cell) = refl
dispatch-past past s e (from_queue q) = dispatch_of-past past s e q (front_of s.work q)

-- what a fetch leaves, put back in the state
abbrev Fetched : List FateRow → State → (Work → FetchAnswer × Work) → Type 0
Fetched past s f = reply_with Fetch (with_work (with_past_fates past s)) (f (with_past_fates past s).work)
    ≡ past_reply past (reply_with Fetch (with_work s) (f s.work))

fetch_of-past : (past : List FateRow) (s : State) (e : ℕ) (d : Descriptor) (cell : Cell) (note : BatchNote)
    (o : Option HeldEntry) → Fetched past s (λ w. fetch_of w e d cell note o)
fetch_of-past past s e d cell note None = refl
fetch_of-past past s e d cell note (Some batch) = go (is_all_fetched note)
  where
    go : (a : Bool) → Fetched past s (λ w. first_row_or ((a, (AllFetched, w)) ∷ []) (after_fetch w e d cell note batch.1))
    go true = refl
    go false = refl

fetch_for-past : (past : List FateRow) (s : State) (e : ℕ) (d : Descriptor) (cell : Cell) (o : Option BatchNote)
    → Fetched past s (λ w. fetch_for w e d cell o)
fetch_for-past past s e d cell None = refl
fetch_for-past past s e d cell (Some note) = fetch_of-past past s e d cell note (batch_on s.work e note)

-- what a start leaves
abbrev Starts : List FateRow → State → (Work → StartAnswer × Work) → Type 0
Starts past s f = reply_with Start (with_work (with_past_fates past s)) (f (with_past_fates past s).work)
    ≡ past_reply past (reply_with Start (with_work s) (f s.work))

start_of-past : (past : List FateRow) (s : State) (e : ℕ) (o : Option HeldEntry) → Starts past s (λ w. start_of w e o)
start_of-past past s e None = refl
start_of-past past s e (Some pair) = go (is_fenced pair.1.desc && not (is_front s.work e pair))
    (is_fenced pair.1.desc && has_failed_member s.work e) (not (has_room s.work e (need_of s.work.setup pair.1)))
  where
    go : (a b c : Bool) → Starts past s (λ w.
        first_row_or ((a, (FenceWait, w)) ∷ (b, (Abandoned (length (members w e)), after_abandon w e)) ∷
        (c, (NoBuffers, w)) ∷ []) (Started (ticket_of_entry pair), after_start w e))
    go true b c = refl
    go false true c = added past (map (fate_row fate.Abandoned) (members s.work e)) _ s (after_abandon s.work e)
    go false false true = refl
    go false false false = refl

-- what an end leaves
abbrev Ends : List FateRow → State → (Work → FinishAnswer × Work) → Type 0
Ends past s f = reply_with Finish (with_work (with_past_fates past s)) (f (with_past_fates past s).work)
    ≡ past_reply past (reply_with Finish (with_work s) (f s.work))

finish_of-past : (past : List FateRow) (s : State) (e : ℕ) (outcome : Outcome) (o : Option HeldEntry)
    → Ends past s (λ w. finish_of w e outcome o)
finish_of-past past s e outcome None = refl
finish_of-past past s e outcome (Some pair) = go (must_wait s.work e pair.1)
  where
    go : (a : Bool) → Ends past s (λ w. first_row_or ((a, (NotReady, w)) ∷ [])
        (Done (last_status w e pair outcome), after_end w e pair outcome))
    go true = refl
    go false = added past (fate_row (fate.Completed (last_status s.work e pair outcome)) pair ∷ []) _ s
        (after_end s.work e pair outcome)

-- ---- commands

-- what a command leaves
abbrev Issued : List FateRow → State → (State → IssueAnswer × State) → Type 0
Issued past s f = reply_with Issue (λ after. after) (f (with_past_fates past s))
    ≡ past_reply past (reply_with Issue (λ after. after) (f s))

wait-past : (past : List FateRow) (s : State) (command : Command) → Issued past s (λ t. wait_of t command)
wait-past past s command = go (is_at_end active s.work.content)
  where
    active : ActiveCommand
    active = record { command = command; mark = s.work.setup.next_name }

    stop : Phase → Setup
    stop phase = after_stop (deed_of command) (scope_of command) phase s.work.setup

    either : State → Bool → IssueAnswer × State
    either t b = cond b (end_at_once t 0 (work_with_setup t.work (stop Off)))
        (Active, record { work = work_with_setup t.work (stop Stopping); active = Some active })

    go : (b : Bool) → Issued past s (λ t. either t b)
    go true = refl
    go false = refl

abort-past : (past : List FateRow) (s : State) (n : ℕ) (scope : Scope) (change : Setup → Setup)
    → Issued past s (λ t. abort_of t n scope change)
abort-past past s n scope change =
    added past (map (fate_row (fate.Aborted n)) (filter (λ pair. is_in_scope scope pair.1) (all_held s.work.content)))
    _ s (work_with_setup (after_abort n scope s.work) (change s.work.setup))

done-past : (past : List FateRow) (s : State) (command : Command) (deed : Deed) (scope : Scope)
    → Issued past s (λ t. deed_done_of t command deed scope)
done-past past s command Enable scope = refl
done-past past s command Abort scope = abort-past past s (number_of_command command) scope (λ setup. setup)
done-past past s command Reset scope = abort-past past s (number_of_command command) scope (reset scope)
done-past past s command Disable scope = wait-past past s command
done-past past s command Drain scope = wait-past past s command

refused_or-past : (past : List FateRow) (s : State) (command : Command) (o : Option Fault)
    → Issued past s (λ t. refusal_or t o (command_done_of t command))
refused_or-past past s command None = done-past past s command (deed_of command) (scope_of command)
refused_or-past past s command (Some fault) = refl

issue-past : (past : List FateRow) (s : State) (command : Command) → Issued past s (λ t. issue t command)
issue-past past s command = go (is_some s.active) (is_bad_queues s.work.setup (scope_of command))
    (not (may_come s.work.setup (deed_of command) (scope_of command)))
  where
    check : Option Fault
    check = check_of s.work.setup (deed_of command) (scope_of command)

    go : (a b c : Bool) → Issued past s (λ t.
        first_row_or ((a, (Refused Busy, t)) ∷ (b, (Refused BadQueue, t)) ∷ (c, (Refused WrongState, t)) ∷ [])
        (refusal_or t check (command_done_of t command)))
    go true b c = refl
    go false true c = refl
    go false false true = refl
    go false false false = refused_or-past past s command check

poll_of-past : (past : List FateRow) (s : State) (o : Option ActiveCommand)
    → reply_with Poll (λ after. after) (poll_of (with_past_fates past s) o)
    ≡ past_reply past (reply_with Poll (λ after. after) (poll_of s o))
poll_of-past past s None = refl
poll_of-past past s (Some active) = go (is_at_end active s.work.content)
  where
    over : Setup
    over = after_stop (deed_of active.command) (scope_of active.command) Off s.work.setup

    either : State → Bool → PollAnswer × State
    either t b = cond b (Finished, record { work = work_with_setup t.work over; active = None }) (poll_answer.Active, t)

    go : (b : Bool) → reply_with Poll (λ after. after) (either (with_past_fates past s) b)
        ≡ past_reply past (reply_with Poll (λ after. after) (either s b))
    go true = refl
    go false = refl

-- ---- any step

reply-past : (past : List FateRow) (s : State) (event : Event) (choice : Choice)
    → reply_of (with_past_fates past s) event choice ≡ past_reply past (reply_of s event choice)
reply-past past s (Submit client queue portal kind d) choice = refl
reply-past past s (event.Dispatch e) choice = dispatch-past past s e choice
reply-past past s (event.Fetch e d) choice = fetch_for-past past s e d (chosen_cell choice) (note_at s.work e)
reply-past past s (event.Start e) choice = start_of-past past s e (first_waiting s.work e)
reply-past past s (event.Finish e t outcome) choice =
    finish_of-past past s e outcome (find (is_ticket t) (running_on s.work e))
reply-past past s (event.Issue command) choice = issue-past past s command
reply-past past s event.Poll choice = poll_of-past past s s.active
reply-past past s (WriteQueue q config) choice = refl
reply-past past s (WriteGroup g config) choice = refl
reply-past past s ClearError choice = refl

leave-past : (past : List FateRow) (s : State) (e : ℕ) (choice : Choice)
    → may_leave (with_past_fates past s).work e choice ≡ may_leave s.work e choice
leave-past past s e nothing = refl
leave-past past s e (in_cell cell) = refl
leave-past past s e (from_queue q) = refl

choose-past : (past : List FateRow) (s : State) (event : Event) (choice : Choice)
    → may_choose (with_past_fates past s) event choice ≡ may_choose s event choice
choose-past past s (Submit client queue portal kind d) choice = refl
choose-past past s (event.Dispatch e) choice = leave-past past s e choice
choose-past past s (event.Fetch e d) choice = refl
choose-past past s _ choice = refl

-- what comes of a test, and of a reply and the state after it
abbrev tested : Reply → Bool → Reply × State → Option State
tested reply may r = when (may && same_reply reply r.0) r.1

tested-past : (past : List FateRow) (reply : Reply) (may : Bool) (r : Reply × State)
    → tested reply may (past_reply past r) ≡ option_map (with_past_fates past) (tested reply may r)
tested-past past reply may r = go (may && same_reply reply r.0)
  where
    go : (b : Bool) → when b (with_past_fates past r.1) ≡ option_map (with_past_fates past) (when b r.1)
    go true = refl
    go false = refl

-- no step looks at a fate
pub next-past : (past : List FateRow) (s : State) (event : Event) (reply : Reply)
    → next (with_past_fates past s) event reply ≡ option_map (with_past_fates past) (next s event reply)
next-past past s event reply =
    let choice = choice_of reply in
    (λ i. tested reply (choose-past past s event choice i) (reply-past past s event choice i))
    ∙ tested-past past reply (may_choose s event choice) (reply_of s event choice)

pub leads-past : (past : List FateRow) (s t : State) (event : Event) (reply : Reply)
    → next s event reply ≡ Some t → next (with_past_fates past s) event reply ≡ Some (with_past_fates past t)
leads-past past s t event reply e = next-past past s event reply ∙ ap (option_map (with_past_fates past)) e

-- ---- histories

-- a history that leads to the state with fates of long ago goes on so
pub replay-past : (caps : Caps) (h : List Step) (past : List FateRow) (s t : State) (x : Step)
    → replay caps h ≡ Some (with_past_fates past s) → next s x.event x.reply ≡ Some t
    → replay caps (h ++ x ∷ []) ≡ Some (with_past_fates past t)
replay-past caps h past s t x r n = replay-snoc caps h x
    ∙ ap (option_and_then (λ s. next s x.event x.reply)) r
    ∙ leads-past past s t x.event x.reply n

-- and the state is lawful
pub past-lawful : (caps : Caps) (h : List Step) (past : List FateRow) (s : State)
    → replay caps h ≡ Some (with_past_fates past s) → IsLawful caps s
past-lawful caps h past s r =
    record { forgotten = past; well_formed = replay-well_formed caps h (with_past_fates past s) r }

-- each name is held, or has a row, be it one of long ago
pub past-counted : (caps : Caps) (h : List Step) (past : List FateRow) (s : State)
    → replay caps h ≡ Some (with_past_fates past s)
    → held_count s.work.content + (length past + length s.work.fates) ≡ s.work.setup.next_name
past-counted caps h past s r =
    omega (arith, (replay-well_formed caps h (with_past_fates past s) r).names.counted, length-append past s.work.fates)

-- ---- names

-- a step gives one name at most
change-names : (s t : State) (c : Change s t)
    → (s.work.setup.next_name ≤ t.work.setup.next_name) × (t.work.setup.next_name ≤ s.work.setup.next_name + 1)
change-names s t c =
    let name = s.work.setup.next_name in
    by_effect (λ w. (name ≤ w.setup.next_name) × (w.setup.next_name ≤ name + 1)) s t c
    (λ e. (omega (arith, e.names), omega (arith, e.names)))
    (λ c. (omega arith, omega arith))
    (λ c. (omega arith, omega arith))
    (λ c. (omega arith, omega arith))
    (λ c. (omega arith, omega arith))
    (λ c. (omega arith, omega arith))
    (λ c. (omega arith, omega arith))
    (λ c. (omega (arith, c.names), omega (arith, c.names)))

-- and none where its reply is not stored
pub next-grows : (s t : State) (event : Event) (reply : Reply) → next s event reply ≡ Some t
    → (s.work.setup.next_name ≤ t.work.setup.next_name)
    × (t.work.setup.next_name ≤ s.work.setup.next_name + cond (is_stored reply) 1 0)
next-grows s t event reply e = go (is_stored reply) refl
  where
    go : (b : Bool) → is_stored reply ≡ b → (s.work.setup.next_name ≤ t.work.setup.next_name)
        × (t.work.setup.next_name ≤ s.work.setup.next_name + cond b 1 0)
    go true is = change-names s t (next-change s t event reply e)
    go false is =
        let same = ap (λ (s : State). s.work.setup.next_name) (next_keeps s t event reply e is) in
        (omega (arith, same), omega (arith, same))
