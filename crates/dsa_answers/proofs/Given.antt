-- Each entry that is held is found by its name among the tickets that were given.
use Rattle.std.proofs.Common.{◌≡◌, ◌⊎◌, inl, inr, ℕ, ◌<◌, ◌+◌, Bool, true, false, not, cond, List, [], ◌∷◌, ◌++◌, map, Option, Some, None}
use Rattle.std.proofs.{Common.{refl, sym, ap, subst, ◌∙◌, arith}, lemmas.{Bool.{eq-eqb, eqb-true, false_from_ne_true}, List.Folds.{find-append}}}
use Rattle.std.specs.{Prelude.{find, filter, ◌==◌, slice_set, slice_get, zero, suc, drop, unwrap_or}, Option.{option_or}}
use Rattle.dsa_base.specs.{Lists.{In}}
use Rattle.dsa_base.proofs.{Lists.{In-append, In-left, In-right, In-filter, In-find, In-front, In-push}}
use Rattle.dsa_base.proofs.Tables.{first_row_or-each, one_row}
use Rattle.dsa_desc.specs.declared.{Descriptor.{Descriptor}, Outcome.{Outcome}}
use Rattle.dsa_regs.specs.{Caps.{list_count}, Command.{number_of_command, scope_of, deed_of}}
use Rattle.dsa_regs.specs.declared.Fault.{Fault}
use Rattle.dsa_regs.specs.declared.{Deed.{Deed, TheVariants.{Enable, Abort, Reset}}, Command.{Command}, Caps.{Caps}}
use Rattle.dsa_regs.specs.declared.{Phase.{Phase, TheVariants.{Off, Stopping}}, Scope.{Scope, TheVariants.{Device, Queue}}}
use Rattle.dsa_regs.specs.declared.{QueueConfig.{QueueConfig}, GroupConfig.{GroupConfig}}
use Rattle.dsa_store.specs.declared.entry.{Cell.{Cell}, Entry.{Entry}}
use Rattle.dsa_store.specs.Content.{HeldEntry, Content, chain, all_held, is_cell, after_push, without_front}
use Rattle.dsa_store.proofs.Sums.{all_held-filtered}
use Rattle.dsa_book.specs.Commands.{issue, issue_table, refusal_or, check_of, command_done_of, deed_done_of, wait_of}
use Rattle.dsa_book.specs.Commands.{work_with_setup, after_enable, after_stop, reset, is_at_end, is_in_scope, poll_of, abort_of}
use Rattle.dsa_book.specs.Commands.{write_queue, write_queue_table, write_group, write_group_table, clear_of}
use Rattle.dsa_book.specs.declared.answer.{Cause.{Cause, TheVariants.{AtLimit, NotEnabled, WrongKind}}, Ticket.{Ticket}}
use Rattle.dsa_book.specs.declared.answer.FetchAnswer.{FetchAnswer, TheVariants.{AllFetched}}
use Rattle.dsa_book.specs.declared.answer.FinishAnswer.{FinishAnswer, TheVariants.{Done, NotReady}}
use Rattle.dsa_book.specs.declared.answer.IssueAnswer.{IssueAnswer}
use Rattle.dsa_book.specs.declared.answer.StartAnswer.{StartAnswer, TheVariants.{Started}}
use Rattle.dsa_book.specs.declared.answer.SubmitAnswer.{SubmitAnswer}
use Rattle.dsa_book.specs.declared.answer.WriteAnswer.{WriteAnswer, TheVariants.{Written}}
use Rattle.dsa_book.specs.declared.answer.Reply.{Reply, TheVariants.{Submit, Fetch}}
use Rattle.dsa_book.specs.declared.event.{Event.{Event}, Kind.{Kind, TheVariants.{Enqcmd, Movdir64b}}, Portal.{Portal}}
use Rattle.dsa_book.specs.declared.event.Event.TheVariants as event
use Rattle.dsa_book.specs.declared.note.{BatchNote.{BatchNote}, ActiveCommand.{ActiveCommand}}
use Rattle.dsa_book.specs.{Choice.{Choice, from_queue, chosen_cell}, State.{Setup, Work, State, opening}}
use Rattle.dsa_book.specs.State.{ticket_of_entry, is_ticket}
use Rattle.dsa_book.specs.Machine.{next, reply_of, with_work, with_intake, intake_of, state_with_setup}
use Rattle.dsa_book.specs.Submit.{submit_table, after_refusal, after_accept}
use Rattle.dsa_book.specs.Work.{dispatch, dispatch_of, after_take, front_of, as_running, fetch_for, fetch_of, after_fetch}
use Rattle.dsa_book.specs.Work.{note_at, batch_on, is_all_fetched, start_of, start_table, after_start, with_first_run, members}
use Rattle.dsa_book.specs.Work.{first_waiting, member_list, progress_list, finish_of, running_on, must_wait, last_status, after_end}
use Rattle.dsa_book.specs.Work.{after_abandon, with_running_entry}
use Rattle.dsa_book.proofs.Nexts.{next-each}
use Rattle.dsa_laws.proofs.{Contents.{In-chain, all_held-empty}, Effects.{stopped-keeps, reset-same}}
use Rattle.dsa_answers.specs.Alike.{AskAlike, HeldAsGiven, given_after, ticket_named, IsTicketIn}
use Rattle.dsa_answers.proofs.Named.{In-members}

-- ---- what is held after a list is set

In-set : (x : HeldEntry) (c : Content) (k : ℕ) (l : List HeldEntry) → In x (all_held (slice_set c k l))
    → In x (all_held c) ⊎ In x l
In-set x [] k l i = inl i
In-set x (m ∷ ms) zero l i = go (In-append x l (all_held ms) i)
  where
    go : In x l ⊎ In x (all_held ms) → In x (all_held (m ∷ ms)) ⊎ In x l
    go (inl j) = inr j
    go (inr j) = inl (In-right x m (all_held ms) j)
In-set x (m ∷ ms) (suc k) l i = go (λ j. In-set x ms k l j) (In-append x m (all_held (slice_set ms k l)) i)
  where
    more : In x (all_held ms) ⊎ In x l → In x (all_held (m ∷ ms)) ⊎ In x l
    more (inl j) = inl (In-right x m (all_held ms) j)
    more (inr j) = inr j

    go : (In x (all_held (slice_set ms k l)) → In x (all_held ms) ⊎ In x l)
        → In x m ⊎ In x (all_held (slice_set ms k l)) → In x (all_held (m ∷ ms)) ⊎ In x l
    go rest (inl j) = inl (In-left x m (all_held ms) j)
    go rest (inr j) = more (rest j)

In-pushed : (x : HeldEntry) (c : Content) (k : ℕ) (cell : Cell) (e : Entry) → In x (all_held (after_push c k cell e))
    → In x (all_held c) ⊎ ((cell, e) ≡ x)
In-pushed x c k cell e i = go (In-set x c k (chain c k ++ (cell, e) ∷ []) i)
  where
    last : In x (chain c k) ⊎ ((cell, e) ≡ x) → In x (all_held c) ⊎ ((cell, e) ≡ x)
    last (inl j) = inl (In-chain x c k j)
    last (inr j) = inr j

    go : In x (all_held c) ⊎ In x (chain c k ++ (cell, e) ∷ []) → In x (all_held c) ⊎ ((cell, e) ≡ x)
    go (inl j) = inl j
    go (inr j) = last (In-push x (chain c k) (cell, e) j)

In-rest : (x : HeldEntry) (l : List HeldEntry) → In x (drop 1 l) → In x l
In-rest x [] i = i
In-rest x (y ∷ l) i = inr i

In-without_front : (x : HeldEntry) (c : Content) (k : ℕ) → In x (all_held (without_front c k)) → In x (all_held c)
In-without_front x c k i = go (In-set x c k (drop 1 (chain c k)) i)
  where
    go : In x (all_held c) ⊎ In x (drop 1 (chain c k)) → In x (all_held c)
    go (inl j) = j
    go (inr j) = In-chain x c k (In-rest x (chain c k) j)

-- ---- a step with which no entry comes in

-- an entry that is held with this one's cell and name
record HeldBefore (c : Content) (x : HeldEntry) : Type 0 where
  pub pair : HeldEntry
  pub held : In pair (all_held c)
  pub same : ticket_of_entry pair ≡ ticket_of_entry x

-- each was held before, with the same cell and name
abbrev AllHeldBefore : Content → Content → Type 0
AllHeldBefore c d = (x : HeldEntry) → In x (all_held d) → HeldBefore c x

still : (c : Content) (x : HeldEntry) → In x (all_held c) → HeldBefore c x
still c x i = record { pair = x; held = i; same = refl }

filtered : (p : HeldEntry → Bool) (c : Content) → AllHeldBefore c (map (filter p) c)
filtered p c x i = still c x (In-filter p x (all_held c) (subst (In x) (all_held-filtered p c) i)).0

taken : (c : Content) (q k : ℕ) (front : HeldEntry) → slice_get (chain c q) 0 ≡ Some front
    → AllHeldBefore c (after_push (without_front c q) k front.0 (as_running front.1))
taken c q k front is x i = go (In-pushed x (without_front c q) k front.0 (as_running front.1) i)
  where
    go : In x (all_held (without_front c q)) ⊎ ((front.0, as_running front.1) ≡ x) → HeldBefore c x
    go (inl j) = still c x (In-without_front x c q j)
    go (inr e) = record {
      pair = front;
      held = In-chain front c q (In-front front (chain c q) is);
      same = ap ticket_of_entry e;
    }

In-first_run : (c : Content) (x : HeldEntry) (l : List HeldEntry) → ((y : HeldEntry) → In y l → In y (all_held c))
    → In x (with_first_run l) → HeldBefore c x
In-first_run c x [] h i = absurd i
In-first_run c x (y ∷ l) h i = go (λ j. In-first_run c x l (λ z k. h z (inr k)) j) y.1.running i
  where
    first : (In x (with_first_run l) → HeldBefore c x) → (y ≡ x) ⊎ In x (with_first_run l) → HeldBefore c x
    first rest (inl e) = still c x (h x (inl e))
    first rest (inr j) = rest j

    begun : (with_running_entry y ≡ x) ⊎ In x l → HeldBefore c x
    begun (inl e) = record { pair = y; held = h y (inl refl); same = ap ticket_of_entry e }
    begun (inr j) = still c x (h x (inr j))

    go : (In x (with_first_run l) → HeldBefore c x) → (b : Bool)
        → In x (cond b (y ∷ with_first_run l) (with_running_entry y ∷ l)) → HeldBefore c x
    go rest true j = first rest j
    go rest false j = begun j

started : (w : Work) (e : ℕ) → AllHeldBefore w.content (after_start w e).content
started w e x i = go (In-set x w.content (member_list w.setup e) (with_first_run (members w e)) i)
  where
    go : In x (all_held w.content) ⊎ In x (with_first_run (members w e)) → HeldBefore w.content x
    go (inl j) = still w.content x j
    go (inr j) = In-first_run w.content x (members w e) (In-members w e) j

emptied : (c : Content) (k : ℕ) → AllHeldBefore c (slice_set c k [])
emptied c k x i = go (In-set x c k [] i)
  where
    go : In x (all_held c) ⊎ In x [] → HeldBefore c x
    go (inl j) = still c x j
    go (inr j) = absurd j

keeps : (given : List Ticket) (s s' : State) → HeldAsGiven given s → s'.work.setup.next_name ≡ s.work.setup.next_name
    → AllHeldBefore s.work.content s'.work.content → HeldAsGiven given s'
keeps given s s' h names before = record {
  found = λ x i. let o = before x i in
      subst (λ (u : Ticket). find (λ ticket. ticket.name == u.name) given ≡ Some u) o.same (h.found o.pair o.held);
  below = λ t i. subst (λ (n : ℕ). t.name < n) (sym names) (h.below t i);
}

-- ---- an entry comes in

no-name : (given : List Ticket) (n : ℕ) → ((t : Ticket) → In t given → t.name < n)
    → find (λ t. t.name == n) given ≡ None
no-name [] n h = refl
no-name (t ∷ given) n h =
    let apart : (t.name == n) ≡ false =
    false_from_ne_true (t.name == n) (λ e. omega (arith, h t (inl refl), eqb-true t.name n e)) in
    rw (apart, no-name given n (λ u i. h u (inr i))) refl

enters : (given : List Ticket) (s s' : State) (k : ℕ) (cell : Cell) (e : Entry) → HeldAsGiven given s
    → e.name ≡ s.work.setup.next_name → s'.work.setup.next_name ≡ s.work.setup.next_name + 1
    → s'.work.content ≡ after_push s.work.content k cell e
    → HeldAsGiven (given ++ ticket_of_entry (cell, e) ∷ []) s'
enters given s s' k cell e h name names content = record {
  found = λ x i. found x (In-pushed x s.work.content k cell e (subst (λ (c : Content). In x (all_held c)) content i));
  below = λ t i. below t (In-push t given (ticket_of_entry (cell, e)) i);
}
  where
    found : (x : HeldEntry) → In x (all_held s.work.content) ⊎ ((cell, e) ≡ x)
        → find (λ t. t.name == x.1.name) (given ++ ticket_of_entry (cell, e) ∷ []) ≡ Some (ticket_of_entry x)
    found x (inl j) = find-append (λ t. t.name == x.1.name) given (ticket_of_entry (cell, e) ∷ [])
        ∙ ap (λ o. option_or o (find (λ t. t.name == x.1.name) (ticket_of_entry (cell, e) ∷ []))) (h.found x j)
    found x (inr j) = subst (λ (y : HeldEntry). find (λ t. t.name == y.1.name) (given ++ ticket_of_entry (cell, e) ∷ [])
        ≡ Some (ticket_of_entry y)) j (find-append (λ t. t.name == e.name) given (ticket_of_entry (cell, e) ∷ [])
        ∙ ap (λ o. option_or o (find (λ t. t.name == e.name) (ticket_of_entry (cell, e) ∷ [])))
        (no-name given e.name (λ t i. subst (λ (n : ℕ). t.name < n) (sym name) (h.below t i)))
        ∙ ap (λ b. let o : Option Ticket = cond b (Some (ticket_of_entry (cell, e))) None in o)
        (eq-eqb e.name e.name refl))

    below : (t : Ticket) → In t given ⊎ (ticket_of_entry (cell, e) ≡ t) → t.name < s'.work.setup.next_name
    below t (inl j) = omega (arith, h.below t j, names)
    below t (inr j) = let same = ap (λ (u : Ticket). u.name) j in omega (arith, same, name, names)

-- ---- each event

abbrev Holds : List Ticket → Reply → State → Type 0
Holds given reply s = HeldAsGiven (given_after given reply) s

-- the set-up is another, with the same next name
set-given : (given : List Ticket) (s : State) (setup : Setup) (active : Option ActiveCommand) → HeldAsGiven given s
    → setup.next_name ≡ s.work.setup.next_name
    → HeldAsGiven given (record { work = work_with_setup s.work setup; active = active })
set-given given s setup active h names =
    keeps given s (record { work = work_with_setup s.work setup; active = active }) h names (still s.work.content)

refusal-given : (given : List Ticket) (s : State) (q : ℕ) (kind : Kind) (cause : Cause) → HeldAsGiven given s
    → let r = after_refusal (intake_of s) q kind cause in Holds given (Submit r.0) (with_intake s r.1)
refusal-given given s q (Enqcmd pasid) cause h = h
refusal-given given s q Movdir64b cause h = record { found = h.found; below = h.below }

submit-given : (given : List Ticket) (s : State) (client q : ℕ) (portal : Portal) (kind : Kind) (d : Descriptor)
    (choice : Choice) → HeldAsGiven given s
    → let r = reply_of s (event.Submit client q portal kind d) choice in Holds given r.0 r.1
submit-given given s client q portal kind d choice h =
    let i = intake_of s in
    first_row_or-each (λ (r : SubmitAnswer × _). Holds given (Submit r.0) (with_intake s r.1))
    (submit_table i q portal kind)
    (after_accept i q kind d (chosen_cell choice)) (
      refusal-given given s q kind NotEnabled h,
      (refusal-given given s q kind WrongKind h, (refusal-given given s q kind AtLimit h, tt)),
    )
    (enters given s (with_intake s (after_accept i q kind d (chosen_cell choice)).1) q (chosen_cell choice) _ h
    refl refl refl)

take-given : (given : List Ticket) (s : State) (e q : ℕ) (o : Option HeldEntry) → HeldAsGiven given s
    → front_of s.work q ≡ o → HeldAsGiven given (with_work s (dispatch_of s.work e q o).1)
take-given given s e q None h is = h
take-given given s e q (Some front) h is = keeps given s (with_work s (after_take s.work e q front)) h refl
    (taken s.work.content q (progress_list s.work.setup e) front is)

dispatch-given : (given : List Ticket) (s : State) (e : ℕ) (choice : Choice) → HeldAsGiven given s
    → HeldAsGiven given (with_work s (dispatch s.work e choice).1)
dispatch-given given s e (from_queue q) h = take-given given s e q (front_of s.work q) h refl
dispatch-given given s e _ h = h

batch-given : (given : List Ticket) (s : State) (e : ℕ) (d : Descriptor) (cell : Cell) (note : BatchNote)
    (o : Option HeldEntry) → HeldAsGiven given s
    → let r = fetch_of s.work e d cell note o in Holds given (Fetch r.0) (with_work s r.1)
batch-given given s e d cell note None h = h
batch-given given s e d cell note (Some batch) h =
    one_row (λ (r : FetchAnswer × Work). Holds given (Fetch r.0) (with_work s r.1)) (is_all_fetched note)
    (AllFetched, s.work) (after_fetch s.work e d cell note batch.1) h
    (enters given s (with_work s (after_fetch s.work e d cell note batch.1).1) (member_list s.work.setup e) cell _ h
    refl refl refl)

fetch-given : (given : List Ticket) (s : State) (e : ℕ) (d : Descriptor) (cell : Cell) (o : Option BatchNote)
    → HeldAsGiven given s
    → let r = fetch_for s.work e d cell o in Holds given (Fetch r.0) (with_work s r.1)
fetch-given given s e d cell None h = h
fetch-given given s e d cell (Some note) h = batch-given given s e d cell note (batch_on s.work e note) h

start-given : (given : List Ticket) (s : State) (e : ℕ) (o : Option HeldEntry) → HeldAsGiven given s
    → HeldAsGiven given (with_work s (start_of s.work e o).1)
start-given given s e None h = h
start-given given s e (Some pair) h =
    first_row_or-each (λ (r : StartAnswer × Work). HeldAsGiven given (with_work s r.1)) (start_table s.work e pair)
    (Started (ticket_of_entry pair), after_start s.work e) (
      h,
      (
        keeps given s (with_work s (after_abandon s.work e)) h refl
            (emptied s.work.content (member_list s.work.setup e)),
        (h, tt),
      ),
    )
    (keeps given s (with_work s (after_start s.work e)) h refl (started s.work e))

finish-given : (given : List Ticket) (s : State) (e : ℕ) (outcome : Outcome) (o : Option HeldEntry)
    → HeldAsGiven given s → HeldAsGiven given (with_work s (finish_of s.work e outcome o).1)
finish-given given s e outcome None h = h
finish-given given s e outcome (Some pair) h =
    one_row (λ (r : FinishAnswer × Work). HeldAsGiven given (with_work s r.1)) (must_wait s.work e pair.1)
    (NotReady, s.work) (Done (last_status s.work e pair outcome), after_end s.work e pair outcome) h
    (keeps given s (with_work s (after_end s.work e pair outcome)) h refl
    (filtered (λ x. not (is_cell pair.0 x)) s.work.content))

-- ---- commands

enabled-name : (scope : Scope) (setup : Setup) → (after_enable scope setup).next_name ≡ setup.next_name
enabled-name Device setup = refl
enabled-name (Queue q) setup = refl
enabled-name _ setup = refl

by-test : {X : Type 0} (P : X → Type 0) (b : Bool) (x y : X) → P x → P y → P (cond b x y)
by-test P true x y p q = p
by-test P false x y p q = q

abort-given : (given : List Ticket) (s : State) (number : ℕ) (scope : Scope) (change : Setup → Setup)
    → HeldAsGiven given s → (change s.work.setup).next_name ≡ s.work.setup.next_name
    → HeldAsGiven given (abort_of s number scope change).1
abort-given given s number scope change h names = keeps given s (abort_of s number scope change).1 h names
    (filtered (λ pair. not (is_in_scope scope pair.1)) s.work.content)

wait-given : (given : List Ticket) (s : State) (command : Command) → HeldAsGiven given s
    → HeldAsGiven given (wait_of s command).1
wait-given given s command h =
    let active : ActiveCommand = record { command = command; mark = s.work.setup.next_name } in
    let stop = after_stop (deed_of command) (scope_of command) in
    let kept = λ (phase : Phase). stopped-keeps (deed_of command) (scope_of command) phase s.work.setup in
    by-test (λ (r : IssueAnswer × State). HeldAsGiven given r.1) (is_at_end active s.work.content) _ _
    (set-given given s (stop Off s.work.setup) s.active h (kept Off).names)
    (set-given given s (stop Stopping s.work.setup) (Some active) h (kept Stopping).names)

deed-given : (given : List Ticket) (s : State) (command : Command) (deed : Deed) (scope : Scope) → HeldAsGiven given s
    → HeldAsGiven given (deed_done_of s command deed scope).1
deed-given given s command Enable scope h =
    set-given given s (after_enable scope s.work.setup) s.active h (enabled-name scope s.work.setup)
deed-given given s command Abort scope h = abort-given given s (number_of_command command) scope (λ setup. setup) h refl
deed-given given s command Reset scope h =
    abort-given given s (number_of_command command) scope (reset scope) h (reset-same scope s.work.setup).1
deed-given given s command _ scope h = wait-given given s command h

refused-given : (given : List Ticket) (s : State) (o : Option Fault) (r : IssueAnswer × State) → HeldAsGiven given s
    → HeldAsGiven given r.1 → HeldAsGiven given (refusal_or s o r).1
refused-given given s None r h done = done
refused-given given s (Some fault) r h done = h

issue-given : (given : List Ticket) (s : State) (command : Command) → HeldAsGiven given s
    → HeldAsGiven given (issue s command).1
issue-given given s command h =
    let fault = check_of s.work.setup (deed_of command) (scope_of command) in
    first_row_or-each (λ (r : IssueAnswer × State). HeldAsGiven given r.1) (issue_table s command)
    (refusal_or s fault (command_done_of s command)) (h, (h, (h, tt)))
    (refused-given given s fault (command_done_of s command) h
    (deed-given given s command (deed_of command) (scope_of command) h))

poll-given : (given : List Ticket) (s : State) (o : Option ActiveCommand) → HeldAsGiven given s
    → HeldAsGiven given (poll_of s o).1
poll-given given s None h = h
poll-given given s (Some active) h =
    by-test (λ (r : _ × State). HeldAsGiven given r.1) (is_at_end active s.work.content) _ _
    (set-given given s (after_stop (deed_of active.command) (scope_of active.command) Off s.work.setup) None h
    (stopped-keeps (deed_of active.command) (scope_of active.command) Off s.work.setup).names)
    h

queue-given : (given : List Ticket) (s : State) (q : ℕ) (config : QueueConfig) → HeldAsGiven given s
    → HeldAsGiven given (state_with_setup s (write_queue s.work.setup q config).1)
queue-given given s q config h =
    first_row_or-each (λ (r : WriteAnswer × Setup). HeldAsGiven given (state_with_setup s r.1))
    (write_queue_table s.work.setup q config)
    (Written, record s.work.setup { configs = slice_set s.work.setup.configs q config }) (h, (h, (h, tt)))
    (set-given given s (record s.work.setup { configs = slice_set s.work.setup.configs q config }) s.active h refl)

group-given : (given : List Ticket) (s : State) (g : ℕ) (config : GroupConfig) → HeldAsGiven given s
    → HeldAsGiven given (state_with_setup s (write_group s.work.setup g config).1)
group-given given s g config h =
    first_row_or-each (λ (r : WriteAnswer × Setup). HeldAsGiven given (state_with_setup s r.1))
    (write_group_table s.work.setup g)
    (Written, record s.work.setup { groups = slice_set s.work.setup.groups g config }) (h, (h, tt))
    (set-given given s (record s.work.setup { groups = slice_set s.work.setup.groups g config }) s.active h refl)

clear-given : (given : List Ticket) (s : State) (o : _) → HeldAsGiven given s
    → HeldAsGiven given (state_with_setup s (clear_of s.work.setup o).1)
clear-given given s None h = h
clear-given given s (Some noted) h = set-given given s (record s.work.setup { noted = None }) s.active h refl

-- ---- the laws

each : (given : List Ticket) (s : State) (event : Event) (choice : Choice) → HeldAsGiven given s
    → Holds given (reply_of s event choice).0 (reply_of s event choice).1
each given s (event.Submit client q portal kind d) choice h = submit-given given s client q portal kind d choice h
each given s (event.Dispatch e) choice h = dispatch-given given s e choice h
each given s (event.Fetch e d) choice h = fetch-given given s e d (chosen_cell choice) (note_at s.work e) h
each given s (event.Start e) choice h = start-given given s e (first_waiting s.work e) h
each given s (event.Finish e ticket outcome) choice h =
    finish-given given s e outcome (find (is_ticket ticket) (running_on s.work e)) h
each given s (event.Issue command) choice h = issue-given given s command h
each given s event.Poll choice h = poll-given given s s.active h
each given s (event.WriteQueue q config) choice h = queue-given given s q config h
each given s (event.WriteGroup g config) choice h = group-given given s g config h
each given s event.ClearError choice h = clear-given given s s.work.setup.noted h

pub given-next : (given : List Ticket) (s s' : State) (event : Event) (reply : Reply) → HeldAsGiven given s
    → next s event reply ≡ Some s' → HeldAsGiven (given_after given reply) s'
given-next given s s' event reply h e = next-each (Holds given) s s' event reply
    (λ choice may is. each given s event choice h) e

pub given-opening : (caps : Caps) → HeldAsGiven [] (opening caps)
given-opening caps = record {
  found = λ x i. absurd (subst (In x) (all_held-empty (list_count caps)) i);
  below = λ t i. absurd i;
}

pub name-of_named : (given : List Ticket) (name : ℕ) → (ticket_named given name).name ≡ name
name-of_named given name = go (find (λ t. t.name == name) given) refl
  where
    go : (o : Option Ticket) → find (λ t. t.name == name) given ≡ o
        → (unwrap_or o (record { cell = record { 0 = 0 }; name = name })).name ≡ name
    go None is = refl
    go (Some t) is = eqb-true t.name name (In-find (λ t. t.name == name) t given is).1

pub ticket-of_named : (given : List Ticket) (s : State) (name : ℕ) → HeldAsGiven given s
    → IsTicketIn s (ticket_named given name)
ticket-of_named given s name h pair held is =
    let same = is ∙ name-of_named given name in
    sym (ap (λ (t : Ticket). t.cell)
    (ap (λ (o : Option Ticket). unwrap_or o (record { cell = record { 0 = 0 }; name = name }))
    (subst (λ (n : ℕ). find (λ t. t.name == n) given ≡ Some (ticket_of_entry pair)) same (h.found pair held))))

pub asked-by_name : (given others : List Ticket) (s t : State) (e name : ℕ) (outcome : Outcome) → HeldAsGiven given s
    → HeldAsGiven others t → AskAlike s t (event.Finish e (ticket_named given name) outcome)
    (event.Finish e (ticket_named others name) outcome)
asked-by_name given others s t e name outcome h k = (
  refl,
  refl,
  name-of_named given name ∙ sym (name-of_named others name),
  ticket-of_named given s name h,
  ticket-of_named others t name k,
)
