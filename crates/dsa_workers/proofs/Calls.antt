-- Calls that come one after the other, and what they add to the receipts.
use Rattle.std.proofs.Common.{inl, inr, ◌≡◌, ◌↔◌, ℕ, ◌+◌, ◌<◌, ◌≤◌, List, [], ◌∷◌, ◌++◌, Bool, true, false, not, cond}
use Rattle.std.proofs.Common.{length, take, get_or, refl, sym, ap, subst, ◌∙◌, append_assoc, append-nil, arith}
use Rattle.std.proofs.lemmas.Bool.{cases_lt, cases_Bool}
use Rattle.std.proofs.lemmas.List.{get_or_at, get_or_default, get_or_append_left, take_at, take-append-le}
use Rattle.std.proofs.lemmas.List.{length-append, Elements.{filter-append}}
use Rattle.std.proofs.lemmas.List.Sums.{sum_by-append, sum_by_push, sum_by-le-sum_by, fold-append, length-filter}
use Rattle.std.proofs.lemmas.List.Sums.{count_by-le-length}
use Rattle.std.proofs.lemmas.List.Filters.{sum_by-filter_both}
use Rattle.dsa_regs.specs.declared.{Caps.{Caps}, Command.{Command}}
use Rattle.dsa_book.specs.declared.event.{Event.{Event, TheVariants.{Poll, Issue}}, Step.{Step}}
use Rattle.dsa_book.specs.declared.answer.SubmitAnswer.TheVariants.{Accepted, Retry, Dropped, Full}
use Rattle.dsa_book.specs.declared.answer.IssueAnswer.TheVariants.{Ended, Active, Refused, Full}
use Rattle.dsa_book.specs.declared.answer.PollAnswer.TheVariants.{Finished, Active, Nothing, Full}
use Rattle.dsa_book.specs.declared.answer.Reply.{Reply}
use Rattle.dsa_book.specs.declared.answer.Reply.TheVariants.{Submit, Dispatch, Fetch, Start, Finish, Issue, Poll}
use Rattle.dsa_book.specs.declared.answer.Reply.TheVariants.{Write, Clear}
use Rattle.dsa_book.specs.{Machine.{is_stored, history_after, stored_steps}, Totals.{total_accepted, is_accepted}}
use Rattle.dsa_workers.specs.Calls.{InOrder, IsCallAnswered, is_history_full, goes_on, steps_done, found_full}
use Rattle.dsa_workers.specs.Calls.{is_worker_waiting, submission_of_client_step}
use Rattle.dsa_workers.specs.Calls.{NextSubmission, NextCommand}
use Rattle.dsa_workers.specs.Workers.{Grows, RunsScript, RunsClient, RunsAdmin}
use Rattle.dsa_workers.specs.declared.scripts.{ClientStep.{ClientStep}, Stint.{Stint}}
use Rattle.dsa_workers.specs.declared.scripts.WorkerEnd.TheVariants.{ScriptDone, TurnsOut, HistoryFull}
use Rattle.dsa_shared.specs.{Seat.{SeatLog}, Locked.{IsAnsweredFor, IsSeatStep, IsAdminStep}}

-- ---- one more, in order

pub in_order_none : {T : Type 0} (next : List T → T → Type 0) → InOrder next []
in_order_none next k d lt = absurd (omega arith)

pub in_order_more : {T : Type 0} (next : List T → T → Type 0) (xs : List T) (x : T) → InOrder next xs → next xs x
    → InOrder next (xs ++ x ∷ [])
in_order_more {T} next xs x old last k d lt = elim (cases_lt k (length xs)) [
  | inl below ↦
      subst (λ (before : List T). next before (get_or (xs ++ x ∷ []) k d))
      (sym (take-append-le k xs (x ∷ []) (omega arith)))
      (subst (λ (y : T). next (take k xs) y) (sym (get_or_append_left xs (x ∷ []) d k below)) (old k d below))
  | inr past ↦
      let here : length xs ≡ k = let all = length-append xs (x ∷ []) in omega arith in
      subst (λ (before : List T). next before (get_or (xs ++ x ∷ []) k d)) (sym (take_at xs (x ∷ []) k here))
      (subst (λ (y : T). next xs y) (sym (get_or_at xs x [] d k here)) last)
]

-- ---- what one more call changes

pub steps_done-more : (calls : List Step) (call : Step)
    → steps_done (calls ++ call ∷ []) ≡ steps_done calls + cond (goes_on call.reply) 1 0
steps_done-more calls call = sum_by_push (λ (c : Step). cond (goes_on c.reply) 1 0) calls call

pub found_more : (calls : List Step) (call : Step)
    → found_full (calls ++ call ∷ []) ≡ found_full calls + cond (is_history_full call.reply) 1 0
found_more calls call = sum_by_push (λ (c : Step). cond (is_history_full c.reply) 1 0) calls call

pub waits_more : (calls : List Step) (call : Step) → is_worker_waiting (calls ++ call ∷ []) ≡ not (goes_on call.reply)
waits_more calls call = fold-append (λ (b : Bool) (c : Step). not (goes_on c.reply)) false calls (call ∷ [])

pub count_of : (b : Bool) (n : Bool) → b ≡ n → cond {A = ℕ} b 1 0 ≡ cond {A = ℕ} n 1 0
count_of b n is = ap (λ (z : Bool). cond {A = ℕ} z 1 0) is

pub moved_by : (b n : Bool) (at after : ℕ) → b ≡ n → after ≡ at + cond {A = ℕ} n 1 0 → after ≡ at + cond {A = ℕ} b 1 0
moved_by b n at after is moved = omega (arith, count_of b n is, moved)

one_stored : (call : Step) (b : Bool) → is_stored call.reply ≡ b → stored_steps (call ∷ []) ≡ cond b (call ∷ []) []
one_stored call b is = ap (λ (z : Bool). cond z (call ∷ []) []) is

pub recorded_more : (old calls : List Step) (call : Step)
    → history_after (old ++ stored_steps calls) call ≡ old ++ stored_steps (calls ++ call ∷ [])
recorded_more old calls call =
    let split = filter-append (λ (c : Step). is_stored c.reply) calls (call ∷ []) in
    elim (cases_Bool (is_stored call.reply)) [
      | inl kept ↦
          ap (λ (z : Bool). cond z ((old ++ stored_steps calls) ++ call ∷ []) (old ++ stored_steps calls)) kept
          ∙ append_assoc old (stored_steps calls) (call ∷ [])
          ∙ ap (λ (z : List Step). old ++ (stored_steps calls ++ z)) (sym (one_stored call true kept))
          ∙ ap (λ (z : List Step). old ++ z) (sym split)
      | inr dropped ↦
          ap (λ (z : Bool). cond z ((old ++ stored_steps calls) ++ call ∷ []) (old ++ stored_steps calls)) dropped
          ∙ ap (λ (z : List Step). old ++ z) (sym (append-nil (stored_steps calls)))
          ∙ ap (λ (z : List Step). old ++ (stored_steps calls ++ z)) (sym (one_stored call false dropped))
          ∙ ap (λ (z : List Step). old ++ z) (sym split)
    ]

-- ---- what follows of the receipts

pub grows_by : (old new calls : List Step) → new ≡ old ++ stored_steps calls → Grows old new (length calls)
grows_by old new calls is =
    let kept : length (stored_steps calls) ≤ length calls =
    let n = length-filter (λ (c : Step). is_stored c.reply) calls in
    let m = count_by-le-length (λ (c : Step). is_stored c.reply) calls in
    omega arith in
    let all : length new ≡ length old + length (stored_steps calls) = ap length is
    ∙ length-append old (stored_steps calls) in
    record {
      prefix = ap (take (length old)) is ∙ take_at old (stored_steps calls) (length old) refl;
      bound = omega arith;
    }

-- ---- a worker with a script, so far

pub record SoFar (next : List Step → Step → Type 0) (steps : ℕ) (old new : List Step) (turn at : ℕ) : Type 0 where
  pub calls : List Step
  pub receipts : new ≡ old ++ stored_steps calls
  pub in_order : InOrder next calls
  pub stops : InOrder (λ before call. found_full before ≡ 0) calls
  pub turns : length calls ≡ turn
  pub steps_done : steps_done calls ≡ at
  pub room : found_full calls ≡ 0
  pub short : at ≤ steps

pub so_far_none : (next : List Step → Step → Type 0) (steps : ℕ) (old : List Step) → SoFar next steps old old 0 0
so_far_none next steps old = record {
  calls = [];
  receipts = sym (append-nil old);
  in_order = in_order_none next;
  stops = in_order_none (λ before call. found_full before ≡ 0);
  turns = refl;
  steps_done = refl;
  room = refl;
  short = omega arith;
}

-- the receipts, order and turns after one more call
record Called (next : List Step → Step → Type 0) (old new : List Step) (calls : List Step) (turn : ℕ) : Type 0 where
  pub receipts : new ≡ old ++ stored_steps calls
  pub in_order : InOrder next calls
  pub stops : InOrder (λ before call. found_full before ≡ 0) calls
  pub turns : length calls ≡ turn

called : (next : List Step → Step → Type 0) (steps : ℕ) (old mid new : List Step) (turn at : ℕ) (call : Step)
    → (so : SoFar next steps old mid turn at) → next so.calls call → new ≡ history_after mid call
    → Called next old new (so.calls ++ call ∷ []) (turn + 1)
called next steps old mid new turn at call so follows is = record {
  receipts = is ∙ ap (λ (z : List Step). history_after z call) so.receipts ∙ recorded_more old so.calls call;
  in_order = in_order_more next so.calls call so.in_order follows;
  stops = in_order_more (λ before c. found_full before ≡ 0) so.calls call so.stops so.room;
  turns = omega (arith, length-append so.calls (call ∷ []), so.turns);
}

-- a worker that finds the history full does not go on
full_stays : (reply : Reply) → is_history_full reply ≡ true → goes_on reply ≡ false
full_stays (Submit (Accepted ticket)) full = absurd cc
full_stays (Submit (Retry cause)) full = absurd cc
full_stays (Submit (Dropped cause)) full = absurd cc
full_stays (Submit Full) full = refl
full_stays (Dispatch answer) full = refl
full_stays (Fetch answer) full = refl
full_stays (Start answer) full = refl
full_stays (Finish answer) full = refl
full_stays (Issue (Ended aborted)) full = absurd cc
full_stays (Issue Active) full = absurd cc
full_stays (Issue (Refused fault)) full = absurd cc
full_stays (Issue Full) full = refl
full_stays (Poll Finished) full = absurd cc
full_stays (Poll Active) full = refl
full_stays (Poll Nothing) full = refl
full_stays (Poll Full) full = refl
full_stays (Write answer) full = refl
full_stays (Clear answer) full = refl

-- what follows of a worker's calls, however it ended
ended_so : (next : List Step → Step → Type 0) (steps limit : ℕ) (old new calls : List Step) (stint : Stint)
    → Called next old new calls stint.turns → stint.turns ≤ limit → steps_done calls ≤ steps
    → ((stint.ended ≡ ScriptDone) ↔ (steps_done calls ≡ steps)) → (stint.ended ≡ TurnsOut → stint.turns ≡ limit)
    → ((stint.ended ≡ HistoryFull) ↔ (0 < found_full calls))
    → RunsScript next steps limit old new stint
ended_so next steps limit old new calls stint c within short done out full = record {
  calls = calls;
  receipts = c.receipts;
  in_order = c.in_order;
  stops = c.stops;
  turns = c.turns;
  within = within;
  short = short;
  done = done;
  out_of_turns = out;
  full = full;
  grows = subst (λ n. Grows old new n) c.turns (grows_by old new calls c.receipts);
  enough = λ e. let all = done.0 e in let few = count_by-le-length (λ (call : Step). goes_on call.reply) calls in
      omega (arith, all, few, c.turns);
}

as_it_is : (next : List Step → Step → Type 0) (steps : ℕ) (old new : List Step) (turn at : ℕ)
    (so : SoFar next steps old new turn at) → Called next old new so.calls turn
as_it_is next steps old new turn at so =
    record { receipts = so.receipts; in_order = so.in_order; stops = so.stops; turns = so.turns }

-- a call that left room
pub so_far_more : (next : List Step → Step
    → Type 0) (steps : ℕ) (old mid new : List Step) (turn at after : ℕ) (call : Step)
    → (so : SoFar next steps old mid turn at) → next so.calls call → new ≡ history_after mid call
    → is_history_full call.reply ≡ false → at < steps
    → after ≡ at + cond (goes_on call.reply) 1 0 → SoFar next steps old new (turn + 1) after
so_far_more next steps old mid new turn at after call so follows is room below next_at =
    let c = called next steps old mid new turn at call so follows is in
    let none : cond {A = ℕ} (is_history_full call.reply) 1 0 ≡ 0 = count_of (is_history_full call.reply) false room in
    let few : cond {A = ℕ} (goes_on call.reply) 1 0 ≤ 1 = at_most_one (goes_on call.reply) in
    record {
      calls = so.calls ++ call ∷ [];
      receipts = c.receipts;
      in_order = c.in_order;
      stops = c.stops;
      turns = c.turns;
      steps_done = omega (arith, steps_done-more so.calls call, so.steps_done);
      room = omega (arith, found_more so.calls call, so.room);
      short = omega arith;
    }
  where
    at_most_one : (b : Bool) → cond {A = ℕ} b 1 0 ≤ 1
    at_most_one true = omega arith
    at_most_one false = omega arith

-- a call that found the history full
pub ends_full : (next : List Step → Step
    → Type 0) (steps limit : ℕ) (old mid new : List Step) (turn at : ℕ) (call : Step)
    → (so : SoFar next steps old mid turn at) → next so.calls call → new ≡ history_after mid call
    → is_history_full call.reply ≡ true → at < steps → turn < limit
    → RunsScript next steps limit old new (record { turns = turn + 1; ended = HistoryFull })
ends_full next steps limit old mid new turn at call so follows is full below within =
    let one : cond {A = ℕ} (is_history_full call.reply) 1 0 ≡ 1 = count_of (is_history_full call.reply) true full in
    let none : cond {A = ℕ} (goes_on call.reply) 1 0 ≡ 0 =
    count_of (goes_on call.reply) false (full_stays call.reply full) in
    let found = found_more so.calls call in
    let through = steps_done-more so.calls call in
    ended_so next steps limit old new (so.calls ++ call ∷ []) (record { turns = turn + 1; ended = HistoryFull })
    (called next steps old mid new turn at call so follows is) (omega arith) (omega (arith, through, so.steps_done))
    ((λ e. absurd cc), (λ e. absurd (omega (arith, through, so.steps_done, e)))) (λ e. absurd cc)
    ((λ e. omega (arith, found, so.room)), (λ e. refl))

-- the end of the script
pub ends_done : (next : List Step → Step → Type 0) (steps limit : ℕ) (old new : List Step) (turn turns at : ℕ)
    → SoFar next steps old new turn at → turn ≡ turns → steps ≤ at → turns ≤ limit
    → RunsScript next steps limit old new (record { turns = turns; ended = ScriptDone })
ends_done next steps limit old new turn turns at so had through within =
    ended_so next steps limit old new so.calls (record { turns = turns; ended = ScriptDone })
    (subst (λ n. Called next old new so.calls n) had (as_it_is next steps old new turn at so)) within
    (omega (arith, so.steps_done, so.short))
    ((λ e. omega (arith, so.steps_done, so.short)), (λ e. refl)) (λ e. absurd cc)
    ((λ e. absurd cc), (λ e. absurd (omega (arith, so.room, e))))

-- no turn is left
pub ends_out : (next : List Step → Step → Type 0) (steps limit : ℕ) (old new : List Step) (turn at : ℕ)
    → SoFar next steps old new turn at → turn ≡ limit → at < steps
    → RunsScript next steps limit old new (record { turns = limit; ended = TurnsOut })
ends_out next steps limit old new turn at so had below =
    ended_so next steps limit old new so.calls (record { turns = limit; ended = TurnsOut })
    (subst (λ n. Called next old new so.calls n) had (as_it_is next steps old new turn at so)) (omega arith)
    (omega (arith, so.steps_done, so.short))
    ((λ e. absurd cc), (λ e. absurd (omega (arith, so.steps_done, e)))) (λ e. refl)
    ((λ e. absurd cc), (λ e. absurd (omega (arith, so.room, e))))

-- ---- what was accepted

accepted_goes : (reply : Reply) → cond (is_accepted reply) 1 0 ≤ cond (goes_on reply) 1 0
accepted_goes (Submit (Accepted ticket)) = omega arith
accepted_goes (Submit (Retry cause)) = omega arith
accepted_goes (Submit (Dropped cause)) = omega arith
accepted_goes (Submit Full) = omega arith
accepted_goes (Dispatch answer) = omega arith
accepted_goes (Fetch answer) = omega arith
accepted_goes (Start answer) = omega arith
accepted_goes (Finish answer) = omega arith
accepted_goes (Issue answer) = omega arith
accepted_goes (Poll answer) = omega arith
accepted_goes (Write answer) = omega arith
accepted_goes (Clear answer) = omega arith

-- no more is accepted than the worker is through with
pub accepts_by : (old new calls : List Step) → new ≡ old ++ stored_steps calls
    → total_accepted new ≤ total_accepted old + steps_done calls
accepts_by old new calls is =
    let f = λ (c : Step). cond (is_accepted c.reply) 1 0 in
    let all = ap total_accepted is in
    let parts = sum_by-append f old (stored_steps calls) in
    let both = sum_by-filter_both (λ (c : Step). is_stored c.reply) (λ (c : Step). not (is_stored c.reply))
    (λ x. refl) f calls in
    let few = sum_by-le-sum_by f (λ (c : Step). cond (goes_on c.reply) 1 0) calls (λ x. accepted_goes x.reply) in
    omega (arith, all, parts, both, few)

-- ---- what was answered

-- a call that was answered to a seat with these receipts
answered_so : (caps : Caps) (capacity : ℕ) (old mid calls : List Step) (call : Step)
    → mid ≡ old ++ stored_steps calls → IsAnsweredFor caps capacity mid call.event call.reply
    → IsCallAnswered caps capacity (old ++ stored_steps calls) call
answered_so caps capacity old mid calls call is answer =
    subst (λ (receipts : List Step). IsAnsweredFor caps capacity receipts call.event call.reply) is answer

-- ---- clients

-- a client so far
pub record SubmitsSoFar (caps : Caps) (capacity : ℕ) (script : List ClientStep) (old new : SeatLog) (turn at : ℕ)
    : Type 0 where
  pub number : new.number ≡ old.number
  pub so_far : SoFar (NextSubmission caps capacity old script) (length script) old.receipts new.receipts turn at

client_next : (client mine : ℕ) (script : List ClientStep) (at : ℕ) (e : ClientStep) (calls : List Step)
    → mine ≡ client → steps_done calls ≡ at → at < length script
    → (d : ClientStep) → submission_of_client_step mine (get_or script at e)
    ≡ submission_of_client_step client (get_or script (steps_done calls) d)
client_next client mine script at e calls same through below d =
    ap (λ n. submission_of_client_step n (get_or script at e)) same
    ∙ ap (submission_of_client_step client) (get_or_default script at e d below
    ∙ ap (λ n. get_or script n d) (sym through))

pub submits_more : (caps : Caps) (capacity : ℕ) (script : List ClientStep) (old mid new : SeatLog) (turn at after : ℕ)
    (e : ClientStep) (reply : Reply) → SubmitsSoFar caps capacity script old mid turn at
    → IsSeatStep caps capacity mid new (submission_of_client_step mid.number (get_or script at e)) reply
    → is_history_full reply ≡ false → at < length script → after ≡ at + cond {A = ℕ} (goes_on reply) 1 0
    → SubmitsSoFar caps capacity script old new (turn + 1) after
unfolding so_far_more
submits_more caps capacity script old mid new turn at after e reply was made room below moved =
    let call : Step = record { event = submission_of_client_step mid.number (get_or script at e); reply = reply } in
    let so = was.so_far in
    record {
      number = ap (λ s. s.number) made.receipts ∙ was.number;
      so_far = so_far_more (NextSubmission caps capacity old script) (length script) old.receipts mid.receipts
          new.receipts turn at after call so (
            answered_so caps capacity old.receipts mid.receipts so.calls call so.receipts made.answered,
            client_next old.number mid.number script at e so.calls was.number so.steps_done below,
          ) (ap (λ s. s.receipts) made.receipts) room below moved;
    }

pub client_runs : (caps : Caps) (capacity : ℕ) (script : List ClientStep) (limit : ℕ) (old new : SeatLog)
    (stint : Stint) → new.number ≡ old.number
    → RunsScript (NextSubmission caps capacity old script) (length script) limit old.receipts new.receipts stint
    → RunsClient caps capacity script limit old new stint
client_runs caps capacity script limit old new stint number runs = record {
  number = number;
  runs = runs;
  accepts = omega (arith, accepts_by old.receipts new.receipts runs.calls runs.receipts, runs.short);
}

pub submits_full : (caps : Caps) (capacity : ℕ) (script : List ClientStep) (limit : ℕ) (old mid new : SeatLog)
    (turn at : ℕ) (e : ClientStep) (reply : Reply) → SubmitsSoFar caps capacity script old mid turn at
    → IsSeatStep caps capacity mid new (submission_of_client_step mid.number (get_or script at e)) reply
    → is_history_full reply ≡ true → at < length script → turn < limit
    → RunsClient caps capacity script limit old new (record { turns = turn + 1; ended = HistoryFull })
submits_full caps capacity script limit old mid new turn at e reply was made full below within =
    let call : Step = record { event = submission_of_client_step mid.number (get_or script at e); reply = reply } in
    let so = was.so_far in
    client_runs caps capacity script limit old new (record { turns = turn + 1; ended = HistoryFull })
    (ap (λ s. s.number) made.receipts ∙ was.number)
    (ends_full (NextSubmission caps capacity old script) (length script) limit old.receipts mid.receipts new.receipts
    turn at call so (
      answered_so caps capacity old.receipts mid.receipts so.calls call so.receipts made.answered,
      client_next old.number mid.number script at e so.calls was.number so.steps_done below,
    ) (ap (λ s. s.receipts) made.receipts) full below within)

-- ---- the administrator

-- the administrator so far: whether its last call left it with a command that waits
pub record AsksSoFar (caps : Caps) (capacity : ℕ) (script : List Command) (old new : List Step) (turn at : ℕ)
    (asks : Bool) : Type 0 where
  pub so_far : SoFar (NextCommand caps capacity old script) (length script) old new turn at
  pub waits : is_worker_waiting so_far.calls ≡ asks

pub asks_none : (caps : Caps) (capacity : ℕ) (script : List Command) (old : List Step)
    → AsksSoFar caps capacity script old old 0 0 false
unfolding so_far_none
asks_none caps capacity script old =
    record { so_far = so_far_none (NextCommand caps capacity old script) (length script) old; waits = refl }

admin_next : (script : List Command) (at : ℕ) (asks : Bool) (e : Command) (calls : List Step)
    → is_worker_waiting calls ≡ asks
    → steps_done calls ≡ at → at < length script
    → (d : Command) → cond {A = Event} asks Poll (Issue (get_or script at e))
    ≡ cond {A = Event} (is_worker_waiting calls) Poll (Issue (get_or script (steps_done calls) d))
admin_next script at asks e calls w through below d =
    ap (λ (b : Bool). cond {A = Event} b Poll (Issue (get_or script at e))) (sym w)
    ∙ ap (λ (c : Command). cond {A = Event} (is_worker_waiting calls) Poll (Issue c))
    (get_or_default script at e d below
    ∙ ap (λ n. get_or script n d) (sym through))

pub asks_more : (caps : Caps) (capacity : ℕ) (script : List Command) (old mid new : List Step) (turn at after : ℕ)
    (asks : Bool) (e : Command) (reply : Reply)
    → AsksSoFar caps capacity script old mid turn at asks
    → IsAdminStep caps capacity mid new (cond {A = Event} asks Poll (Issue (get_or script at e))) reply
    → is_history_full reply ≡ false → at < length script → after ≡ at + cond {A = ℕ} (goes_on reply) 1 0
    → AsksSoFar caps capacity script old new (turn + 1) after (not (goes_on reply))
unfolding so_far_more
asks_more caps capacity script old mid new turn at after asks e reply was made room below moved =
    let call : Step = record { event = cond {A = Event} asks Poll (Issue (get_or script at e)); reply = reply } in
    record {
      so_far = so_far_more (NextCommand caps capacity old script) (length script) old mid new turn at after call
          was.so_far (
            answered_so caps capacity old mid was.so_far.calls call was.so_far.receipts made.answered,
            admin_next script at asks e was.so_far.calls was.waits was.so_far.steps_done below,
          ) made.receipts room
          below moved;
      waits = waits_more was.so_far.calls call;
    }

pub asks_full : (caps : Caps) (capacity : ℕ) (script : List Command) (limit : ℕ) (old mid new : List Step)
    (turn at : ℕ) (asks : Bool) (e : Command) (reply : Reply)
    → AsksSoFar caps capacity script old mid turn at asks
    → IsAdminStep caps capacity mid new (cond {A = Event} asks Poll (Issue (get_or script at e))) reply
    → is_history_full reply ≡ true → at < length script → turn < limit
    → RunsAdmin caps capacity script limit old new (record { turns = turn + 1; ended = HistoryFull })
asks_full caps capacity script limit old mid new turn at asks e reply was made full below within =
    let call : Step = record { event = cond {A = Event} asks Poll (Issue (get_or script at e)); reply = reply } in
    ends_full (NextCommand caps capacity old script) (length script) limit old mid new turn at call was.so_far (
      answered_so caps capacity old mid was.so_far.calls call was.so_far.receipts made.answered,
      admin_next script at asks e was.so_far.calls was.waits was.so_far.steps_done below,
    ) made.receipts full below within
