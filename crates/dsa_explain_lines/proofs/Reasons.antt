-- Whatever is answered but plain success has its reason.
use Rattle.dsa_book.specs.declared.event.Event.TheVariants as event
use Rattle.dsa_book.specs.declared.answer.Reply.TheVariants as reply
use Rattle.dsa_book.specs.declared.answer.DispatchAnswer.TheVariants as dispatched
use Rattle.dsa_book.specs.declared.answer.FetchAnswer.TheVariants as fetched
use Rattle.dsa_book.specs.declared.answer.StartAnswer.TheVariants as started
use Rattle.dsa_book.specs.declared.answer.FinishAnswer.TheVariants as finished
use Rattle.dsa_book.specs.declared.answer.IssueAnswer.TheVariants as issued
use Rattle.std.proofs.Common.{◌≡◌, ◌≢◌, ℕ, ◌<◌, ◌≤◌, ◌==◌, Bool, true, false, not, cond, ◌&&◌, ◌||◌, List, [], ◌∷◌, ◌++◌}
use Rattle.std.proofs.Common.{Option, Some, None, refl, sym, ap, ◌∙◌, arith, inl, inr, nat_lt, length}
use Rattle.std.proofs.lemmas.{Grind.{common_steps}, Bool.{cases_lt, not-true}}
use Rattle.std.specs.{Prelude.{codes, flat_map, slice_set, find, is_some, option_and_then}, List.{list_any}, Option.{option_map}}
use Rattle.dsa_base.{specs.{Rows.{first_row_or, when}, Numbers.{numbers_below}}, proofs.{Tables.{when-some}, NumberLemmas.{numbers_below-miss}}}
use Rattle.dsa_desc.specs.declared.{Descriptor.{Descriptor}, Outcome.{Outcome}}
use Rattle.dsa_desc.specs.Descriptor.{is_successful, is_supported, is_fenced, is_transfer, is_batch, is_within, is_page_fault}
use Rattle.dsa_regs.specs.declared.{Caps.{Caps}, Command.{Command}, QueueConfig.{QueueConfig}, GroupConfig.{GroupConfig}}
use Rattle.dsa_regs.specs.declared.{Deed.{Deed, TheVariants.{Enable, Disable, Drain, Abort, Reset}}, Scope.{Scope}}
use Rattle.dsa_regs.specs.Command.{deed_of, scope_of}
use Rattle.dsa_store.specs.{declared.entry.{Cell.{Cell}, Entry.{Entry}}, Content.{HeldEntry, use_count, entry_of, list_of_cell}}
use Rattle.dsa_book.specs.declared.{event.{Event.{Event}, Step.{Step}, Portal.{Portal}, Kind.{Kind}}, answer.Reply.{Reply}}
use Rattle.dsa_book.specs.declared.answer.{FetchAnswer.{FetchAnswer}, StartAnswer.{StartAnswer}, FinishAnswer.{FinishAnswer}}
use Rattle.dsa_book.specs.declared.answer.{IssueAnswer.{IssueAnswer}, Ticket.{Ticket}, NotedError.{NotedError}}
use Rattle.dsa_book.specs.declared.answer.{SubmitAnswer.{SubmitAnswer}, PollAnswer.{PollAnswer}, WriteAnswer.{WriteAnswer}}
use Rattle.dsa_book.specs.{Choice.{Choice, nothing, chosen_cell}, State.{Intake, Setup, Work, State}}
use Rattle.dsa_book.specs.State.{is_batch_of, is_member, is_ticket, limits_at}
use Rattle.dsa_book.specs.Machine.{reply_of, next, intake_of, Reaches, replay, may_follow, is_full_reply}
use Rattle.dsa_book.specs.Submit.{submit}
use Rattle.dsa_book.specs.Work.{may_leave, qualifies, fetch, start, finish, finish_of}
use Rattle.dsa_book.specs.Work.{running_on, must_wait, last_status, has_failed_member}
use Rattle.dsa_book.specs.Commands.{issue, deed_done_of, poll, write_queue, write_group, clear_of}
use Rattle.dsa_book.proofs.Nexts.{next-each}
use Rattle.dsa_queues.specs.declared.reasons.{SubmitReason.{SubmitReason}, WriteReason.{WriteReason}}
use Rattle.dsa_queues.specs.Submission.{submit_reason, submit_by}
use Rattle.dsa_queues.specs.Write.{write_queue_reason, write_group_reason, write_by, clear_reason}
use Rattle.dsa_engines.specs.declared.reasons.{EngineReason.{EngineReason}, QueueReason.{QueueReason}}
use Rattle.dsa_engines.specs.declared.reasons.{FetchReason.{FetchReason}, StartReason.{StartReason}}
use Rattle.dsa_engines.specs.declared.reasons.FinishReason.{FinishReason}
use Rattle.dsa_engines.specs.Dispatch.{engine_reason, queue_reason, is_offered}
use Rattle.dsa_engines.specs.Batch.{fetch_reason, fetch_answer, unfetched, start_reason, start_answer, unstarted}
use Rattle.dsa_engines.specs.Finish.{finish_reason, finish_answer, unended}
use Rattle.dsa_engines.proofs.{Batches.{fetch-told}, StartReasons.{started-told}, EndReasons.{ended-told}, Finding.{meant_in, found}, TakeReasons.{reason-some}}
use Rattle.dsa_admin.specs.declared.reasons.{IssueReason.{IssueReason}, PollReason.{PollReason}}
use Rattle.dsa_admin.specs.Command.{issue_reason, issue_by, poll_reason, poll_answer_by}
use Rattle.dsa_device.specs.Running.{Running, running_after}
use Rattle.dsa_explain.specs.declared.awaiting.WaitReason.{WaitReason}
use Rattle.dsa_explain.specs.{Held.{awaited_entry}, Wait.{wait_reason, is_active_answer}, Done.{done_reason, ending_entry, status_reason}}
use Rattle.dsa_explain_lines.specs.Parts.{told_of, any_reason, joint, queue_part, queue_part_of, dispatch_part, dispatch_part_of}
use Rattle.dsa_explain_lines.specs.Parts.{start_part, start_part_of, finish_part, finish_part_of, deed_part, issue_part_of}
use Rattle.dsa_explain_lines.specs.Parts.{event_part, room_part, names_part, full_part, wait_part, wait_part_of}
use Rattle.dsa_explain_lines.specs.Sentences.{done_sentence, submit_sentence, fetch_sentence, poll_sentence}
use Rattle.dsa_explain_lines.specs.{Sentences.{write_sentence, clear_sentence, no_engine, no_queue}, Lines.{is_taken_by}}
use Rattle.dsa_explain_lines.specs.Success.{is_success}

-- ---- texts

-- what begins with a sign is not empty
pub begins : (sign : ℕ) (rest : List ℕ) → sign ∷ rest ≢ []
begins sign rest e = absurd cc

left-empty : (a b : List ℕ) → a ++ b ≡ [] → a ≡ []
left-empty [] b e = refl
left-empty (x ∷ a) b e = absurd (begins x (a ++ b) e)

longer : (a b : List ℕ) → a ≢ [] → a ++ b ≢ []
longer a b some e = some (left-empty a b e)

right-empty : (a b : List ℕ) → a ++ b ≡ [] → b ≡ []
right-empty [] b e = e
right-empty (x ∷ a) b e = absurd (begins x (a ++ b) e)

-- a reason has its sentence
told : {R : Type 0} (sentence : R → List ℕ) (reason : Option R) → is_some reason ≡ true → told_of sentence reason ≢ []
told sentence None h = absurd cc
told sentence (Some reason) h = begins _ _

-- ---- submissions and writes

submitted : (i : Intake) (queue : ℕ) (kind : Kind) (desc : Descriptor) (cell : Cell) (reason : Option SubmitReason)
    → is_success (reply.Submit (submit_by i queue kind desc cell reason).0) ≡ false → is_some reason ≡ true
submitted i queue kind desc cell None fails = absurd cc
submitted i queue kind desc cell (Some reason) fails = refl

written : (setup after : Setup) (reason : Option WriteReason)
    → is_success (reply.Write (write_by setup after reason).0) ≡ false → is_some reason ≡ true
written setup after None fails = absurd cc
written setup after (Some reason) fails = refl

cleared : (setup : Setup) (noted : Option NotedError)
    → is_success (reply.Clear (clear_of setup noted).0) ≡ false → is_some (clear_reason noted) ≡ true
cleared setup None fails = refl
cleared setup (Some noted) fails = absurd cc

-- ---- engines

-- a queue with a reason has a text
queue-told : (w : Work) (e q : ℕ) → is_some (queue_reason w e q) ≡ true → queue_part w e q ≢ []
queue-told w e q = go (queue_reason w e q)
  where
    marked : (b : Bool) → cond b (codes "; ") (codes ": ") ≢ []
    marked true = begins _ _
    marked false = begins _ _

    go : (reason : Option QueueReason) → is_some reason ≡ true → queue_part_of w e q reason ≢ []
    go None h = absurd cc
    go (Some reason) h = longer _ _ (longer (joint w e q) _ (marked (any_reason w e q)))

-- so have the queues, where one has a reason
queues-told : (w : Work) (e : ℕ) (qs : List ℕ) → list_any (λ q. is_some (queue_reason w e q)) qs ≡ true
    → flat_map (queue_part w e) qs ≢ []
queues-told w e [] h = absurd cc
queues-told w e (q ∷ qs) h = λ empty. go (is_some (queue_reason w e q)) refl h
    (left-empty (queue_part w e q) (flat_map (queue_part w e) qs) empty)
    (λ there. queues-told w e qs there (right-empty (queue_part w e q) (flat_map (queue_part w e) qs) empty))
  where
    go : (b : Bool) → is_some (queue_reason w e q) ≡ b → (b || list_any (λ q. is_some (queue_reason w e q)) qs) ≡ true
        → queue_part w e q ≡ [] → (list_any (λ q. is_some (queue_reason w e q)) qs ≡ true → ⊥) → ⊥
    go true is h here more = queue-told w e q is here
    go false is h here more = more h

-- an engine that takes nothing has a text
idle-told : (w : Work) (e : ℕ) → dispatch_part w e ≢ []
idle-told w e = go (engine_reason w e)
  where
    queues : (b : Bool) → any_reason w e w.setup.caps.queues ≡ b
        → cond b (flat_map (queue_part w e) (numbers_below w.setup.caps.queues)) (codes ": " ++ no_queue e) ≢ []
    queues true is = queues-told w e (numbers_below w.setup.caps.queues) is
    queues false is = begins _ _

    go : (reason : Option EngineReason) → dispatch_part_of w e reason ≢ []
    go (Some reason) = begins _ _
    go None = queues (any_reason w e w.setup.caps.queues) refl

fetch-some : (reason : Option FetchReason) (answer : FetchAnswer) → option_map fetch_answer reason ≡ unfetched answer
    → is_success (reply.Fetch answer) ≡ false → is_some reason ≡ true
fetch-some (Some reason) answer is fails = refl
fetch-some None (fetched.Fetched ticket) is fails = absurd cc
fetch-some None fetched.NoBatch is fails = absurd cc
fetch-some None fetched.AllFetched is fails = absurd cc
fetch-some None fetched.Full is fails = absurd cc

start-told : (w : Work) (e : ℕ) → is_success (reply.Start (start w e).0) ≡ false → start_part w e ≢ []
start-told w e fails = go (nat_lt e w.setup.caps.engines) (start_reason w e)
    (some (start_reason w e) (start w e).0 (started-told w e) fails)
  where
    some : (reason : Option StartReason) (answer : StartAnswer) → option_map start_answer reason ≡ unstarted answer
        → is_success (reply.Start answer) ≡ false → is_some reason ≡ true
    some (Some reason) answer is fails = refl
    some None (started.Started ticket) is fails = absurd cc
    some None started.FenceWait is fails = absurd cc
    some None started.NoBuffers is fails = absurd cc
    some None (started.Abandoned left) is fails = absurd cc
    some None started.Nothing is fails = absurd cc
    some None started.Full is fails = absurd cc

    go : (b : Bool) (reason : Option StartReason) → is_some reason ≡ true
        → cond b (start_part_of w e reason) (codes ": " ++ no_engine e) ≢ []
    go true None is = absurd cc
    go true (Some reason) is = begins _ _
    go false reason is = begins _ _

-- ---- statuses

-- the number of the first check that fails
abbrev first_check : Bool → Bool → Bool → Bool → ℕ
first_check a b c d = first_row_or ((a, 0x10) ∷ (b, 0x11) ∷ (c, 0x13) ∷ (d, 0x14) ∷ []) 0

abbrev status_by : Bool → ℕ → Bool → ℕ
status_by failed check fault =
    cond failed 0x05 (first_row_or ((not (check == 0), check) ∷ (fault, 0x03) ∷ []) 0x01)

-- each status but success has a reason
status-some : (w : Work) (entry : Entry) (failed a b c d fault : Bool)
    → is_successful (status_by failed (first_check a b c d) fault) ≡ false
    → is_some (status_reason w entry (status_by failed (first_check a b c d) fault)) ≡ true
status-some w entry true a b c d fault fails = refl
status-some w entry false true b c d fault fails = refl
status-some w entry false false true c d fault fails = refl
status-some w entry false false false true d fault fails = refl
status-some w entry false false false false true fault fails = refl
status-some w entry false false false false false true fails = refl
status-some w entry false false false false false false fails = let wrong : true ≡ false = fails in absurd cc

last-some : (w : Work) (e : ℕ) (pair : HeldEntry) (outcome : Outcome) → is_successful (last_status w e pair outcome) ≡ false
    → is_some (status_reason w pair.1 (last_status w e pair outcome)) ≡ true
last-some w e pair outcome =
    let d = pair.1.desc in
    let limits = limits_at w.setup pair.1.queue in
    let member = is_member pair.1 in
    status-some w pair.1 (is_batch_of w.setup pair.1 && has_failed_member w e) (not (is_supported d member))
    (is_fenced d && not member) (is_transfer d && not (is_within 1 _ d.size)) (is_batch d && not (is_within 2 _ d.size))
    (is_transfer d && is_page_fault outcome)

-- ---- the end of an entry

module _ (w : Work) (e : ℕ) (t : Ticket) (outcome : Outcome) (once : use_count w.content t.cell ≤ 1) where
  -- what is meant is what the cell holds
  meant-entry : (list : Option ℕ) (entry : Option Entry) (pair : HeldEntry) → meant_in w.setup e t list entry ≡ Some pair
      → option_map (λ entry. (t.cell, entry)) entry ≡ Some pair
  meant-entry None entry pair h = absurd cc
  meant-entry (Some i) None pair h = absurd cc
  meant-entry (Some i) (Some entry) pair h = ap Some (when-some _ (t.cell, entry) pair h).1

  -- an engine that ends an entry is there
  there : finish_reason w e t ≡ None → e < w.setup.caps.engines
  there none = elim (cases_lt e w.setup.caps.engines) [
    | inl here ↦ here
    | inr past ↦ let off : nat_lt e w.setup.caps.engines ≡ false = grind (arith, common_steps, past) in grind (arith, common_steps, off, none)
  ]

  -- the entry that ends is the one of the ticket
  ending-is : (pair : HeldEntry) → finish_reason w e t ≡ None → find (is_ticket t) (running_on w e) ≡ Some pair
      → ending_entry w e t ≡ Some pair
  ending-is pair none is = rw none (meant-entry (list_of_cell w.content t.cell) (entry_of w.content t.cell) pair
      (sym (found w.setup w.content e t once (there none)) ∙ is))

  done-some : finish_reason w e t ≡ None → (pair : Option HeldEntry) → find (is_ticket t) (running_on w e) ≡ pair
      → unended (finish_of w e outcome pair).0 ≡ None → is_success (reply.Finish (finish_of w e outcome pair).0) ≡ false
      → is_some (done_reason w e t outcome) ≡ true
  done-some none None is ended fails = absurd cc
  done-some none (Some pair) is ended fails = rw (ending-is pair none is)
      (last-some w e pair outcome (waits (must_wait w e pair.1) (last_status w e pair outcome) _ ended fails))
    where
      waits : (b : Bool) (status : ℕ) (after : Work)
          → unended (first_row_or {X = FinishAnswer × Work} ((b, (finished.NotReady, w)) ∷ []) (finished.Done status, after)).0 ≡ None
          → is_success (reply.Finish (first_row_or {X = FinishAnswer × Work} ((b, (finished.NotReady, w)) ∷ [])
          (finished.Done status, after)).0) ≡ false
          → is_successful status ≡ false
      waits true status after ended fails = absurd cc
      waits false status after ended fails = fails

  finish-told : is_success (reply.Finish (finish w e t outcome).0) ≡ false → finish_part w e t outcome ≢ []
  finish-told fails = go (finish_reason w e t) refl
    where
      go : (reason : Option FinishReason) → finish_reason w e t ≡ reason → finish_part_of w e t outcome reason ≢ []
      go (Some reason) is = begins _ _
      go None is = told done_sentence (done_reason w e t outcome)
          (done-some is (find (is_ticket t) (running_on w e)) refl
          (sym (ended-told w e t outcome once) ∙ ap (option_map finish_answer) is) fails)

-- ---- commands

-- what is waited for has its text
wait-told : (s : State) (command : Command) → is_some (wait_reason s command) ≡ true → wait_part s command ≢ []
wait-told s command = go (wait_reason s command)
  where
    go : (reason : Option WaitReason) → is_some reason ≡ true → wait_part_of s command reason ≢ []
    go None h = absurd cc
    go (Some reason) h = begins _ _

-- a drain or a disable ends at once, or is active
waits : (s : State) (command : Command) (b : Bool) (over on : State)
    → (is_active_answer (cond {A = IssueAnswer × State} b (issued.Ended 0, over) (issued.Active, on)).0 ≡ true
    → is_some (wait_reason s command) ≡ true)
    → is_success (reply.Issue (cond {A = IssueAnswer × State} b (issued.Ended 0, over) (issued.Active, on)).0) ≡ false
    → is_some (wait_reason s command) ≡ true
waits s command true over on active fails = absurd cc
waits s command false over on active fails = active refl

-- a command that is carried out ends, or is active
deed-told : (s : State) (command : Command) (deed : Deed) (scope : Scope)
    → (is_active_answer (deed_done_of s command deed scope).0 ≡ true → is_some (wait_reason s command) ≡ true)
    → is_success (reply.Issue (deed_done_of s command deed scope).0) ≡ false → deed_part s command deed ≢ []
deed-told s command Enable scope active fails = absurd cc
deed-told s command Abort scope active fails = absurd cc
deed-told s command Reset scope active fails = absurd cc
deed-told s command Disable scope active fails = wait-told s command (waits s command _ _ _ active fails)
deed-told s command Drain scope active fails = wait-told s command (waits s command _ _ _ active fails)

issue-told : (s : State) (command : Command) (reason : Option IssueReason)
    → issue s command ≡ issue_by s command reason
    → is_active_answer (issue s command).0 ≡ is_some (wait_reason s command)
    → is_success (reply.Issue (issue s command).0) ≡ false → issue_part_of s command reason ≢ []
issue-told s command (Some reason) is active fails = begins _ _
issue-told s command None is active fails = deed-told s command (deed_of command) (scope_of command)
    (λ h. sym active ∙ ap (λ (r : IssueAnswer × State). is_active_answer r.0) is ∙ h)
    (ap (λ (r : IssueAnswer × State). is_success (reply.Issue r.0)) (sym is) ∙ fails)

polled : (reason : Option PollReason) → is_success (reply.Poll (poll_answer_by reason)) ≡ false → is_some reason ≡ true
polled None fails = absurd cc
polled (Some reason) fails = refl

-- ---- any event

module _ (s : State) (once : (cell : Cell) → use_count s.work.content cell ≤ 1)
    (submissions : (i : Intake) (queue : ℕ) (portal : Portal) (kind : Kind) (desc : Descriptor) (cell : Cell)
    → submit i queue portal kind desc cell ≡ submit_by i queue kind desc cell (submit_reason i queue portal kind))
    (queues : (setup : Setup) (queue : ℕ) (config : QueueConfig) → write_queue setup queue config
    ≡ write_by setup (record setup { configs = slice_set setup.configs queue config })
    (write_queue_reason setup queue config))
    (groups : (setup : Setup) (group : ℕ) (config : GroupConfig) → write_group setup group config
    ≡ write_by setup (record setup { groups = slice_set setup.groups group config })
    (write_group_reason setup group))
    (commands : (s : State) (command : Command) → issue s command ≡ issue_by s command (issue_reason s command))
    (polls : (s : State) → (poll s).0 ≡ poll_answer_by (poll_reason s))
    (waits : (s : State) (command : Command) → is_active_answer (issue s command).0 ≡ is_some (wait_reason s command)) where
  each : (event : Event) (choice : Choice) → is_success (reply_of s event choice).0 ≡ false → event_part s event ≢ []
  each (event.Submit client queue portal kind desc) choice fails =
      told (submit_sentence queue) (submit_reason (intake_of s) queue portal kind)
      (submitted (intake_of s) queue kind desc (chosen_cell choice) (submit_reason (intake_of s) queue portal kind)
      (ap (λ (r : SubmitAnswer × Intake). is_success (reply.Submit r.0))
      (sym (submissions (intake_of s) queue portal kind desc (chosen_cell choice))) ∙ fails))
  each (event.Dispatch engine) choice fails = idle-told s.work engine
  each (event.Fetch engine desc) choice fails = told (fetch_sentence engine) (fetch_reason s.work engine)
      (fetch-some (fetch_reason s.work engine) (fetch s.work engine desc (chosen_cell choice)).0
      (fetch-told s.work engine desc (chosen_cell choice)) fails)
  each (event.Start engine) choice fails = start-told s.work engine fails
  each (event.Finish engine ticket outcome) choice fails = finish-told s.work engine ticket outcome (once ticket.cell) fails
  each (event.Issue command) choice fails =
      issue-told s command (issue_reason s command) (commands s command) (waits s command) fails
  each event.Poll choice fails = told (poll_sentence (awaited_entry s)) (poll_reason s) (polled (poll_reason s)
      (ap (λ (a : PollAnswer). is_success (reply.Poll a)) (sym (polls s)) ∙ fails))
  each (event.WriteQueue queue config) choice fails =
      told (write_sentence (codes "queue") (codes "queues")) (write_queue_reason s.work.setup queue config)
      (written s.work.setup _ (write_queue_reason s.work.setup queue config)
      (ap (λ (r : WriteAnswer × Setup). is_success (reply.Write r.0)) (sym (queues s.work.setup queue config)) ∙ fails))
  each (event.WriteGroup group config) choice fails =
      told (write_sentence (codes "group") (codes "groups")) (write_group_reason s.work.setup group)
      (written s.work.setup _ (write_group_reason s.work.setup group)
      (ap (λ (r : WriteAnswer × Setup). is_success (reply.Write r.0)) (sym (groups s.work.setup group config)) ∙ fails))
  each event.ClearError choice fails = told clear_sentence (clear_reason s.work.setup.noted)
      (cleared s.work.setup s.work.setup.noted fails)

  next-told : (event : Event) (reply : Reply) → is_some (next s event reply) ≡ true → is_success reply ≡ false
      → event_part s event ≢ []
  next-told event reply = go (next s event reply) refl
    where
      go : (after : Option State) → next s event reply ≡ after → is_some after ≡ true → is_success reply ≡ false
          → event_part s event ≢ []
      go None is h = absurd cc
      go (Some s') is h = next-each (λ r after. is_success r ≡ false → event_part s event ≢ []) s s' event reply
          (λ choice may chosen. each event choice) is

  -- and of what may follow a history of this device, with a text where the history is full
  pub follows-told : (caps : Caps) (capacity : ℕ) (history : List Step) (step : Step) (room : List ℕ) → room ≢ []
      → Reaches caps history s → may_follow caps capacity history step ≡ true → is_success step.reply ≡ false
      → cond (length history == capacity) room (event_part s step.event) ≢ []
  follows-told caps capacity history step room some reached = go (length history == capacity)
    where
      go : (full : Bool) → cond full (is_full_reply step.event step.reply)
          (is_some (option_and_then (λ s. next s step.event step.reply) (replay caps history))) ≡ true
          → is_success step.reply ≡ false → cond full room (event_part s step.event) ≢ []
      go true may fails = some
      go false may fails = next-told step.event step.reply
          (ap (λ (at : Option State). is_some (option_and_then (λ s. next s step.event step.reply) at)) (sym reached) ∙ may)
          fails

  -- and of what this device may answer
  pub answered-told : (d after : Running) (event : Event) (reply : Reply) (room : List ℕ) → room ≢ [] → (full : Bool)
      → cond full (when (is_full_reply event reply) d) (option_map (running_after d event reply) (next s event reply))
      ≡ Some after
      → is_success reply ≡ false → cond full room (event_part s event) ≢ []
  answered-told d after event reply room some true is fails = some
  answered-told d after event reply room some false is fails = next-told event reply (there (next s event reply) is) fails
    where
      there : (to : Option State) → option_map (running_after d event reply) to ≡ Some after → is_some to ≡ true
      there None is = absurd cc
      there (Some t) is = refl

-- a history without room has its text
pub full-told : (now : Running) → full_part now ≢ []
full-told now = longer (room_part now.capacity) (names_part now) (begins _ _)

-- what is taken is a success, so that a reason is shown
pub is-shown : (reply : Reply) (part : List ℕ) → is_success reply ≡ false → part ≢ [] → cond (is_taken_by reply) [] part ≢ []
is-shown (reply.Submit answer) part fails some = some
is-shown (reply.Dispatch (dispatched.Taken ticket queue)) part fails some = absurd cc
is-shown (reply.Dispatch dispatched.Idle) part fails some = some
is-shown (reply.Dispatch dispatched.Full) part fails some = some
is-shown (reply.Fetch answer) part fails some = some
is-shown (reply.Start answer) part fails some = some
is-shown (reply.Finish answer) part fails some = some
is-shown (reply.Issue answer) part fails some = some
is-shown (reply.Poll answer) part fails some = some
is-shown (reply.Write answer) part fails some = some
is-shown (reply.Clear answer) part fails some = some

-- an idle engine of which no queue has a reason is offered no queue
pub none-offered : (w : Work) (e q : ℕ) → may_leave w e nothing ≡ true → any_reason w e w.setup.caps.queues ≡ false
    → is_offered w e q ≡ false
none-offered w e q idle none = elim (cases_lt q w.setup.caps.queues) [
  | inl inside ↦ go (is_offered w e q) (qualifies w e q)
      (numbers_below-miss (qualifies w e) w.setup.caps.queues q (not-true _ idle) inside)
      (sym (reason-some w e q)
      ∙ numbers_below-miss (λ k. is_some (queue_reason w e k)) w.setup.caps.queues q none inside)
  | inr past ↦
      let off : nat_lt q w.setup.caps.queues ≡ false = grind (arith, common_steps, past) in
      grind (arith, common_steps, off)
]
  where
    go : (offered may : Bool) → may ≡ false → (offered && not may) ≡ false → offered ≡ false
    go false may fails h = refl
    go true false fails h = absurd cc
    go true true fails h = absurd cc
