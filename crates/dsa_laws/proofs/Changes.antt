-- Every step that may come is one of the changes, and its reply tells how many entries that adds.
use Rattle.std.proofs.Common.{◌≡◌, ◌⊎◌, inl, inr, ◌∷◌, [], ℕ, Bool, true, false, cond, Option, Some, None, refl, ap, sym}
use Rattle.std.{proofs.lemmas.Bool.{cond_both, not-false, not-true, leb-true}, specs.Prelude.{find, is_some, is_none, count_by}}
use Rattle.dsa_desc.specs.declared.{Descriptor.{Descriptor}, Outcome.{Outcome}}
use Rattle.dsa_laws.proofs.Effects.{came, gone}
use Rattle.dsa_laws.specs.Change.{Change, same, is_noted, is_accepted, is_taken, is_fetched, is_started}
use Rattle.dsa_laws.specs.Change.{is_abandoned, is_ended, is_device_enabled, is_queue_enabled, is_waiting, is_over}
use Rattle.dsa_laws.specs.Change.{is_aborted, is_reset, is_cleared, is_queue_written, is_group_written}
use Rattle.dsa_laws.specs.Refusals.{IsRefused}
use Rattle.dsa_laws.specs.Change.{IsGranted, IsBegun, set_up}
use Rattle.dsa_base.specs.Rows.{first_row_or}
use Rattle.dsa_base.proofs.Tables.{not-both, table1, table2, table3}
use Rattle.dsa_regs.specs.{Command.{scope_of, deed_of}, Caps.{cell_count}}
use Rattle.dsa_regs.specs.declared.{Scope.{TheVariants.{Device, Queue}, Scope}, GroupConfig.{GroupConfig}}
use Rattle.dsa_regs.specs.declared.{QueueConfig.{QueueConfig}, Deed.{Deed, TheVariants.{Enable, Disable, Drain, Abort, Reset}}}
use Rattle.dsa_regs.specs.declared.{Fault.{TheVariants.{BadQueue, WrongState, Busy}, Fault}, Command.{Command}}
use Rattle.dsa_store.specs.{declared.entry.Cell.{Cell}, Content.{HeldEntry, is_free}}
use Rattle.dsa_book.specs.{Choice.{from_queue, Choice, chosen_cell, choice_of, may_enter, in_cell}, Commands.{check_of}}
use Rattle.dsa_book.specs.Commands.{poll_of, deed_done_of, write_group, wait_of, refusal_or, is_at_end, command_done_of}
use Rattle.dsa_book.specs.{Commands.{issue, clear_of, is_bad_queues, write_queue, may_come}, State.{Setup, is_ticket}}
use Rattle.dsa_book.specs.{State.{State, Work, Intake}, Submit.{after_refusal, submit, after_accept}}
use Rattle.dsa_book.specs.Work.{finish_of, is_all_fetched, qualifies, fetch_of, batch_on, first_waiting, dispatch_of}
use Rattle.dsa_book.specs.Work.{may_leave, front_of, dispatch, start_of, after_fetch, running_on, note_at, fetch_for}
use Rattle.dsa_book.specs.Machine.{next, with_intake, with_work, intake_of, may_choose, state_with_setup, reply_of}
use Rattle.dsa_book.specs.{Machine.{is_stored}, Commands.{work_with_setup}}
use Rattle.dsa_book.specs.declared.note.{ActiveCommand.{ActiveCommand}, BatchNote.{BatchNote}}
use Rattle.dsa_book.specs.declared.answer.{SubmitAnswer.{SubmitAnswer}, FetchAnswer.{FetchAnswer}, Ticket.{Ticket}}
use Rattle.dsa_book.specs.declared.answer.{PollAnswer.{PollAnswer}, IssueAnswer.{TheVariants.{Refused}, IssueAnswer}}
use Rattle.dsa_book.specs.declared.answer.Reply.TheVariants.{Fetch, Dispatch, Start, Submit, Issue, Write, Poll}
use Rattle.dsa_book.specs.declared.answer.{Reply.{TheVariants.{Clear, Finish}, Reply}, FinishAnswer.{FinishAnswer}}
use Rattle.dsa_book.specs.declared.answer.WriteAnswer.{TheVariants.{Refused}, WriteAnswer}
use Rattle.dsa_book.specs.declared.answer.{NotedError.{NotedError}, StartAnswer.{StartAnswer}, Cause.{Cause, TheVariants.{NotEnabled, WrongKind, AtLimit}}}
use Rattle.dsa_book.specs.declared.event.Kind.{TheVariants.{Movdir64b, Enqcmd}, Kind}
use Rattle.dsa_book.specs.declared.event.Event.TheVariants.{Fetch, WriteQueue, Submit, Finish, WriteGroup, Poll, Start}
use Rattle.dsa_book.specs.declared.event.{Event.{TheVariants.{Issue, ClearError, Dispatch}, Event}, Portal.{Portal}}
use Rattle.dsa_book.{specs.Totals.{is_fetched as fetches, is_accepted as accepts}, proofs.Nexts.{next-each}}
use Rattle.dsa_book.proofs.Gains.{ended_by}

-- ---- what a reply tells of the change that its step makes

abbrev counted : Bool → ℕ
counted b = cond b 1 0

-- how many entries a reply says are accepted, fetched and ended
abbrev told_by : Reply → ℕ × ℕ × ℕ
told_by reply = (counted (accepts reply), counted (fetches reply), ended_by reply)

-- the change, as many entries as the reply tells of, and none where it is not stored
pub record Tells (s : State) (r : Reply × State) : Type 0 where
  pub change : Change s r.1
  pub accepted : counted (accepts r.0) ≡ count_by is_none (came change)
  pub fetched : counted (fetches r.0) ≡ count_by is_some (came change)
  pub ended : ended_by r.0 ≡ gone change
  pub kept : is_stored r.0 ≡ false → r.1 ≡ s

-- nothing changes
stays : {s : State} {reply : Reply} → told_by reply ≡ (0, 0, 0) → Tells s (reply, s)
stays e = record {
  change = same refl;
  accepted = ap (λ t. t.0) e;
  fetched = ap (λ t. t.1) e;
  ended = ap (λ t. t.2) e;
  kept = λ u. refl;
}

-- the change is stored
makes : {s t : State} {reply : Reply} (c : Change s t) → is_stored reply ≡ true
    → told_by reply ≡ (count_by is_none (came c), count_by is_some (came c), gone c) → Tells s (reply, t)
makes c stored e = record {
  change = c;
  accepted = ap (λ t. t.0) e;
  fetched = ap (λ t. t.1) e;
  ended = ap (λ t. t.2) e;
  kept = λ u. not-both _ stored u;
}

-- a table of three rows, where each row comes with its test, and with what failed before it
rows3 : {X : Type 0} (P : X → Type 0) (a b c : Bool) (x y z last : X) → (a ≡ true → P x)
    → (a ≡ false → b ≡ true → P y) → (a ≡ false → b ≡ false → c ≡ true → P z)
    → (a ≡ false → b ≡ false → c ≡ false → P last)
    → P (first_row_or ((a, x) ∷ (b, y) ∷ (c, z) ∷ []) last)
rows3 P true b c x y z last p q r t = p refl
rows3 P false true c x y z last p q r t = q refl refl
rows3 P false false true x y z last p q r t = r refl refl refl
rows3 P false false false x y z last p q r t = t refl refl refl

-- ---- submit

-- a layer's answer, and what it leaves put back in the state
abbrev Submits : State → SubmitAnswer × Intake → Type 0
Submits s r = Tells s (Submit r.0, with_intake s r.1)

refused-tells : (s : State) (q : ℕ) (portal : Portal) (kind : Kind) (cause : Cause)
    → IsRefused s.work q portal kind cause → Submits s (after_refusal (intake_of s) q kind cause)
refused-tells s q portal (Enqcmd pasid) cause refused = stays refl
refused-tells s q portal Movdir64b cause refused =
    makes (is_noted
    (record { queue = q; portal = portal; cause = cause; refused = refused; after = refl })) refl refl

-- the cell that a reply tells of is free
free_of : (s : State) (choice : Choice) (cell : Cell) → may_enter s.work.setup s.work.content choice ≡ true
    → in_cell cell ≡ choice → is_free (cell_count s.work.setup.caps) s.work.content cell ≡ true
free_of s choice cell may told = rw (← told) at may

submit-tells : (s : State) (q : ℕ) (portal : Portal) (kind : Kind) (d : Descriptor) (choice : Choice)
    → may_enter s.work.setup s.work.content choice ≡ true
    → let r = submit (intake_of s) q portal kind d (chosen_cell choice) in choice_of (Submit r.0) ≡ choice → Submits s r
submit-tells s q portal kind d choice may =
    let cell = chosen_cell choice in
    rows3 (λ r. choice_of (Submit r.0) ≡ choice → Submits s r) _ _ _
    _ _ _ (after_accept (intake_of s) q kind d cell)
    (λ x told. refused-tells s q portal kind NotEnabled (not-true _ x))
    (λ x y told. refused-tells s q portal kind WrongKind (not-false _ x, not-true _ y))
    (λ x y z told. refused-tells s q portal kind AtLimit (not-false _ x, not-false _ y, leb-true _ _ z))
    (λ x y z told.
    makes (is_accepted (record {
      queue = q;
      portal = portal;
      kind = kind;
      desc = d;
      cell = cell;
      on = not-false _ x;
      of_kind = not-false _ y;
      below = z;
      free = free_of s choice cell may told;
      after = refl;
    })) refl refl)

-- ---- dispatch

dispatch_of-tells : (s : State) (e q : ℕ) (o : Option HeldEntry) → front_of s.work q ≡ o → qualifies s.work e q ≡ true
    → let r = dispatch_of s.work e q o in Tells s (Dispatch r.0, with_work s r.1)
dispatch_of-tells s e q None n may = stays refl
dispatch_of-tells s e q (Some front) n may =
    makes (is_taken
    (record { engine = e; queue = q; front = front; is_front = n; qualifies = may; after = refl })) refl refl

dispatch-tells : (s : State) (e : ℕ) (choice : Choice) → may_leave s.work e choice ≡ true
    → let r = dispatch s.work e choice in Tells s (Dispatch r.0, with_work s r.1)
dispatch-tells s e (from_queue q) may = dispatch_of-tells s e q (front_of s.work q) refl may
dispatch-tells s e _ may = stays refl

-- ---- fetch

-- what a fetch of a cell that may be chosen tells
abbrev Fetches : State → Choice → FetchAnswer × Work → Type 0
Fetches s choice r = choice_of (Fetch r.0) ≡ choice → Tells s (Fetch r.0, with_work s r.1)

fetch_of-tells : (s : State) (e : ℕ) (d : Descriptor) (choice : Choice) (note : BatchNote) (o : Option HeldEntry)
    → may_enter s.work.setup s.work.content choice ≡ true → note_at s.work e ≡ Some note → batch_on s.work e note ≡ o
    → Fetches s choice (fetch_of s.work e d (chosen_cell choice) note o)
fetch_of-tells s e d choice note None may n m = λ told. stays refl
fetch_of-tells s e d choice note (Some batch) may n m =
    table1 (Fetches s choice) (is_all_fetched note) _ (after_fetch s.work e d (chosen_cell choice) note batch.1)
    (λ u told. stays refl)
    (λ u told.
    makes (is_fetched (record {
      engine = e;
      desc = d;
      cell = chosen_cell choice;
      note = note;
      batch = batch;
      is_note = n;
      is_batch = m;
      more = u;
      free = free_of s choice (chosen_cell choice) may told;
      after = refl;
    })) refl refl)

fetch_for-tells : (s : State) (e : ℕ) (d : Descriptor) (choice : Choice) (o : Option BatchNote)
    → may_enter s.work.setup s.work.content choice ≡ true → note_at s.work e ≡ o
    → Fetches s choice (fetch_for s.work e d (chosen_cell choice) o)
fetch_for-tells s e d choice None may n = λ told. stays refl
fetch_for-tells s e d choice (Some note) may n = fetch_of-tells s e d choice note (batch_on s.work e note) may n refl

-- ---- start

start_of-tells : (s : State) (e : ℕ) (o : Option HeldEntry) → first_waiting s.work e ≡ o
    → let r = start_of s.work e o in Tells s (Start r.0, with_work s r.1)
start_of-tells s e None n = stays refl
start_of-tells s e (Some pair) n =
    rows3 (λ (r : StartAnswer × Work). Tells s (Start r.0, with_work s r.1)) _ _ _ _ _ _ _
    (λ u. stays refl)
    (λ u v. makes (is_abandoned
    (record { engine = e; pair = pair; is_first = n; first_of_all = u; failed = v; after = refl })) refl refl)
    (λ u v t. stays refl)
    (λ u v t.
    let room = not-false _ t in
    makes (is_started
    (record { engine = e; pair = pair; is_first = n; first_of_all = u; unfailed = v; room = room; after = refl }))
    refl refl)

-- ---- finish

finish_of-tells : (s : State) (e : ℕ) (t : Ticket) (outcome : Outcome) (o : Option HeldEntry)
    → find (is_ticket t) (running_on s.work e) ≡ o
    → let r = finish_of s.work e outcome o in Tells s (Finish r.0, with_work s r.1)
finish_of-tells s e t outcome None n = stays refl
finish_of-tells s e t outcome (Some pair) n =
    table1 (λ (r : FinishAnswer × Work). Tells s (Finish r.0, with_work s r.1)) _ _ _
    (λ u. stays refl)
    (λ u. makes (is_ended (record {
      engine = e;
      ticket = t;
      outcome = outcome;
      pair = pair;
      is_found = n;
      ready = u;
      after = refl;
    })) refl refl)

-- ---- issue and poll

-- no command is active
none-of : {X : Type 0} (o : Option X) → is_some o ≡ false → o ≡ None
none-of None e = refl
none-of (Some x) e = absurd cc

-- with a set-up, where no command is active
after-idle : (s : State) (setup : Setup) → s.active ≡ None
    → set_up s None setup ≡ record s { work = work_with_setup s.work setup }
after-idle s setup idle = ap (λ active. set_up s active setup) (sym idle)

-- the answer to a command, and the state after it
abbrev Issues : State → IssueAnswer × State → Type 0
Issues s r = Tells s (Issue r.0, r.1)

-- what a command is granted by
granted-by : (s : State) (deed : Deed) (scope : Scope) → s.active ≡ None → is_bad_queues s.work.setup scope ≡ false
    → may_come s.work.setup deed scope ≡ true → check_of s.work.setup deed scope ≡ None → IsGranted s deed scope
granted-by s deed scope idle queues phases check =
    record { idle = idle; queues = queues; phases = phases; check = check }

waits-tells : (s : State) (command : Command) → (deed_of command ≡ Disable) ⊎ (deed_of command ≡ Drain)
    → IsGranted s (deed_of command) (scope_of command) → Issues s (wait_of s command)
waits-tells s command deed granted =
    let active : ActiveCommand = record { command = command; mark = s.work.setup.next_name } in
    let begun : IsBegun s active = record { deed = deed; granted = granted; mark = refl } in
    cond_both (is_at_end active s.work.content) _ _ (Issues s)
    (λ u. makes (is_over
    (record { active = active; begun = inl begun; over = u; after = after-idle s _ granted.idle })) refl refl)
    (λ u. makes (is_waiting
    (record { active = active; begun = begun; held = u; after = refl })) refl refl)

done-tells : (s : State) (command : Command) (deed : Deed) (scope : Scope) → deed_of command ≡ deed
    → scope_of command ≡ scope → IsGranted s deed scope → Issues s (deed_done_of s command deed scope)
done-tells s command Enable Device is at granted =
    makes (is_device_enabled (record { granted = granted; after = after-idle s _ granted.idle })) refl refl
done-tells s command Enable (Queue queue) is at granted =
    makes (is_queue_enabled
    (record { queue = queue; granted = granted; after = after-idle s _ granted.idle })) refl refl
done-tells s command Enable scope is at granted = stays refl
done-tells s command Abort scope is at granted =
    makes (is_aborted (record { command = command; deed = is; granted = rw at granted; after = rw at refl })) refl
    (rw at refl)
done-tells s command Reset scope is at granted =
    makes (is_reset (record { command = command; deed = is; granted = rw at granted; after = rw at refl })) refl
    (rw at refl)
done-tells s command Disable scope is at granted = waits-tells s command (inl is) (rw (is, at) granted)
done-tells s command Drain scope is at granted = waits-tells s command (inr is) (rw (is, at) granted)

refused_or-tells : (s : State) (command : Command) (o : Option Fault)
    → check_of s.work.setup (deed_of command) (scope_of command) ≡ o
    → (check_of s.work.setup (deed_of command) (scope_of command) ≡ None
    → IsGranted s (deed_of command) (scope_of command))
    → Issues s (refusal_or s o (command_done_of s command))
refused_or-tells s command None check granted =
    done-tells s command (deed_of command) (scope_of command) refl refl (granted check)
refused_or-tells s command (Some fault) check granted = stays refl

issue-tells : (s : State) (command : Command) → Issues s (issue s command)
issue-tells s command =
    let deed = deed_of command in
    let scope = scope_of command in
    table3 (Issues s) (is_some s.active) (is_bad_queues s.work.setup scope) _
    (Refused Busy, s) (Refused BadQueue, s) (Refused WrongState, s) _
    (λ u. stays refl)
    (λ u. stays refl)
    (λ u. stays refl)
    (λ u v t. refused_or-tells s command (check_of s.work.setup deed scope) refl
    (granted-by s deed scope (none-of s.active u) v (not-false _ t)))

poll_of-tells : (s : State) (o : Option ActiveCommand) → s.active ≡ o
    → let r = poll_of s o in Tells s (Poll r.0, r.1)
poll_of-tells s None is = stays refl
poll_of-tells s (Some active) is =
    cond_both (is_at_end active s.work.content) _ _
    (λ (r : PollAnswer × State). Tells s (Poll r.0, r.1))
    (λ u. makes (is_over
    (record { active = active; begun = inr is; over = u; after = refl })) refl refl)
    (λ u. stays refl)

-- ---- writes and clear

-- the answer to a write, and the set-up after it
abbrev Writes : State → WriteAnswer × Setup → Type 0
Writes s r = Tells s (Write r.0, state_with_setup s r.1)

write_queue-tells : (s : State) (q : ℕ) (config : QueueConfig) → Writes s (write_queue s.work.setup q config)
write_queue-tells s q config =
    table3 (Writes s) _ _ _ _ _ _ _
    (λ u. stays refl)
    (λ u. stays refl)
    (λ u. stays refl)
    (λ u v t. makes (is_queue_written
    (record {
      queue = q;
      config = config;
      has = not-false _ u;
      off = not-false _ v;
      size = t;
      after =
          refl;
    })) refl refl)

write_group-tells : (s : State) (g : ℕ) (config : GroupConfig) → Writes s (write_group s.work.setup g config)
write_group-tells s g config =
    table2 (Writes s) _ _ _ _ _
    (λ u. stays refl)
    (λ u. stays refl)
    (λ u v. makes (is_group_written
    (record { group = g; config = config; has = not-false _ u; off = not-false _ v; after = refl })) refl refl)

clear_of-tells : (s : State) (o : Option NotedError) → s.work.setup.noted ≡ o → let r = clear_of s.work.setup o in
    Tells s (Clear r.0, state_with_setup s r.1)
clear_of-tells s None is = stays refl
clear_of-tells s (Some noted) is =
    makes (is_cleared (record { noted = noted; is_noted = is; after = refl })) refl refl

-- ---- any step

-- the machine's reply tells so, where what it tells of may be chosen
reply-tells : (s : State) (event : Event) (choice : Choice) → may_choose s event choice ≡ true
    → let r = reply_of s event choice in choice_of r.0 ≡ choice → Tells s r
reply-tells s (Submit client queue portal kind d) choice may told = submit-tells s queue portal kind d choice may told
reply-tells s (Dispatch e) choice may told = dispatch-tells s e choice may
reply-tells s (Fetch e d) choice may told = fetch_for-tells s e d choice (note_at s.work e) may refl told
reply-tells s (Start e) choice may told = start_of-tells s e (first_waiting s.work e) refl
reply-tells s (Finish e t outcome) choice may told = finish_of-tells s e t outcome
    (find (is_ticket t) (running_on s.work e)) refl
reply-tells s (Issue command) choice may told = issue-tells s command
reply-tells s Poll choice may told = poll_of-tells s s.active refl
reply-tells s (WriteQueue q config) choice may told = write_queue-tells s q config
reply-tells s (WriteGroup g config) choice may told = write_group-tells s g config
reply-tells s ClearError choice may told = clear_of-tells s s.work.setup.noted refl

pub next-tells : (s s' : State) (event : Event) (reply : Reply) → next s event reply ≡ Some s' → Tells s (reply, s')
next-tells s s' event reply h = next-each (λ r t. Tells s (r, t)) s s' event reply
    (λ choice may told. reply-tells s event choice may told) h

pub next-change : (s s' : State) (event : Event) (reply : Reply) → next s event reply ≡ Some s' → Change s s'
next-change s s' event reply h = (next-tells s s' event reply h).change

-- a step that a history does not keep leaves the state as it was
pub next_keeps : (s s' : State) (event : Event) (reply : Reply) → next s event reply ≡ Some s'
    → is_stored reply ≡ false → s' ≡ s
next_keeps s s' event reply h = (next-tells s s' event reply h).kept
