use Rattle.dsa_cli.proofs.rows.workers_ran.Goals as goal
use Rattle.std.proofs.Common.{inl, inr, ◌≡◌, ◌≢◌, ◌<◌, ◌⊎◌, ℕ, List, Bool, true, false, cond}
use Rattle.std.proofs.Common.{length}
use Rattle.std.proofs.Common.{refl, ap, subst, ◌∙◌, get_or, take, arith}
use Rattle.std.proofs.lemmas.{Bool.{cases_Bool, cases_lt}, List.Sums.{get_or-le-sum_by}}
use Rattle.dsa_book.specs.declared.answer.Reply.{Reply}
use Rattle.dsa_book.specs.declared.answer.Reply.TheVariants.{Submit}
use Rattle.dsa_book.specs.declared.answer.SubmitAnswer.{SubmitAnswer}
use Rattle.dsa_book.specs.declared.answer.SubmitAnswer.TheVariants.{Accepted, Retry, Dropped, Full}
use Rattle.dsa_book.specs.declared.event.Event.{Event}
use Rattle.dsa_book.specs.declared.event.Kind.TheVariants.{Enqcmd}
use Rattle.dsa_book.specs.declared.event.Portal.TheVariants.{Limited}
use Rattle.dsa_book.specs.declared.event.Step.{Step}
use Rattle.dsa_book.specs.Machine.{is_stored, stored_steps}
use Rattle.dsa_regs.specs.declared.Caps.{Caps}
use Rattle.dsa_shared.specs.{Seat.{SeatLog, fresh}, Locked.{IsAnsweredFor}}
use Rattle.dsa_workers.specs.Calls.{is_history_full, steps_done, found_full}
use Rattle.dsa_workers.specs.Calls.{submission_of_client_step}
use Rattle.dsa_workers.proofs.Answered.{answer_has}
use Rattle.dsa_workers.specs.declared.scripts.ClientStep.{ClientStep}
use Rattle.dsa_workers.specs.declared.scripts.WorkerEnd.{WorkerEnd}
use Rattle.dsa_workers.specs.declared.scripts.WorkerEnd.TheVariants.{ScriptDone, TurnsOut}
use Rattle.dsa_workers.specs.declared.scripts.WorkerEnd.TheVariants.{HistoryFull}
use Rattle.dsa_cli.specs.declared.options.Workload.{Workload}
use Rattle.dsa_cli.specs.Threads.{RanAsClient, RanAsEngine}
use Rattle.dsa_cli.specs.Worked.{load, page_move_bytes, two_retries}
use Rattle.dsa_cli.proofs.ThreadTotals.{filter_kept}

-- a reply that is stored unless the history is full
abbrev StoredWithRoom : Reply → Type 0
StoredWithRoom reply = is_history_full reply ≡ false → is_stored reply ≡ true

-- the answer to a submission is such a reply
submission_stored : (answer : SubmitAnswer) → StoredWithRoom (Submit answer)
submission_stored (Accepted ticket) room = refl
submission_stored (Retry cause) room = refl
submission_stored (Dropped cause) room = refl
submission_stored Full room = absurd cc

-- so is what a client was answered
stored_submit : (caps : Caps) (capacity : ℕ) (receipts : List Step) (client : ℕ) (step : ClientStep) (reply : Reply)
    → IsAnsweredFor caps capacity receipts (submission_of_client_step client step) reply → StoredWithRoom reply
stored_submit caps capacity receipts client step reply answer =
    answer_has StoredWithRoom caps capacity receipts (submission_of_client_step client step) reply
    (submission_stored Full) (λ s choice. submission_stored _) answer

-- where no call found the history full, none of them did
none_found : (calls : List Step) → found_full calls ≡ 0 → (k : ℕ) (d : Step) → k < length calls
    → is_history_full (get_or calls k d).reply ≡ false
none_found calls none k d lt =
    let f = λ (call : Step). cond {A = ℕ} (is_history_full call.reply) 1 0 in
    let few = get_or-le-sum_by f calls k d lt in
    elim (cases_Bool (is_history_full (get_or calls k d).reply)) [
      | inl full ↦
          let one : f (get_or calls k d) ≡ 1 = ap (λ (b : Bool). cond {A = ℕ} b 1 0) full in
          absurd (omega (arith, few, none, one))
      | inr room ↦ room
    ]

-- an end that is not one of the others
ended_out : (end : WorkerEnd) → end ≢ ScriptDone → end ≢ HistoryFull → end ≡ TurnsOut
ended_out ScriptDone not_done room = absurd (not_done refl)
ended_out TurnsOut not_done room = refl
ended_out HistoryFull not_done room = absurd (room refl)

-- a client made a step in each turn, or is through with its script
client_went_on : (caps : Caps) (capacity : ℕ) (load : Workload) (c : ℕ) (seat : SeatLog)
    → RanAsClient caps capacity load c seat
    → (length seat.receipts ≡ load.turns) ⊎ (steps_done seat.receipts ≡ load.each)
client_went_on caps capacity load c seat ran =
    let script = ran.0 in
    let stint = ran.1 in
    let runs = ran.4.runs in
    let calls = runs.calls in
    let some : ClientStep = record { queue = 0; portal = Limited; kind = Enqcmd 0; bytes = page_move_bytes } in
    let none : found_full calls ≡ 0 = no_full (found_full calls) (λ more. ran.5 (runs.full.1 more)) in
    let kept : stored_steps calls ≡ calls = filter_kept (λ (call : Step). is_stored call.reply) calls (λ k d lt.
    let next = runs.in_order k d lt in
    let receipts = stored_steps (take k calls) in
    stored_submit caps capacity receipts c (get_or script (steps_done (take k calls)) some)
    (get_or calls k d).reply
    (subst (λ (e : Event). IsAnsweredFor caps capacity receipts e (get_or calls k d).reply) (next.1 some)
    next.0) (none_found calls none k d lt)) in
    let all : seat.receipts ≡ calls = runs.receipts ∙ kept in
    ends stint.ended
    (λ e. ap (λ (l : List Step). length l) all ∙ runs.turns ∙ runs.out_of_turns e)
    (λ e. ap steps_done all ∙ runs.done.0 e ∙ ran.2)
    (λ e. ran.5 e)
  where
    no_full : (n : ℕ) → (0 < n → ⊥) → n ≡ 0
    no_full n not = elim (cases_lt 0 n) [
      | inl more ↦ absurd (not more)
      | inr past ↦ omega (arith, past)
    ]

    ends : (end : WorkerEnd) → (end ≡ TurnsOut → length seat.receipts ≡ load.turns)
        → (end ≡ ScriptDone → steps_done seat.receipts ≡ load.each) → (end ≡ HistoryFull → ⊥)
        → (length seat.receipts ≡ load.turns) ⊎ (steps_done seat.receipts ≡ load.each)
    ends ScriptDone turns done full = inr (done refl)
    ends TurnsOut turns done full = inl (turns refl)
    ends HistoryFull turns done full = absurd (full refl)

-- an engine had all its turns
engine_went_on : (caps : Caps) (capacity : ℕ) (load : Workload) (e : ℕ) (seat : SeatLog)
    (ran : RanAsEngine caps capacity load e seat)
    → ran.0.turns ≡ load.turns
engine_went_on caps capacity load e seat ran = ran.1.out_of_turns (ended_out ran.0.ended ran.1.unscripted ran.2)

pub returns-clause-client : goal.returns-clause-client
returns-clause-client c caps capacity asked client seat ran = client_went_on caps capacity asked client seat ran

pub returns-clause-engine : goal.returns-clause-engine
returns-clause-engine c caps capacity asked e seat ran = engine_went_on caps capacity asked e seat ran

pub returns-clause-idle_client : goal.returns-clause-idle_client
returns-clause-idle_client c caps capacity ran = elim (client_went_on caps capacity (load 1 1 1 1) 0 (fresh 0) ran) [
  | inl turns ↦ omega (arith, turns)
  | inr done ↦ omega (arith, done)
]

pub returns-clause-half_the_turns : goal.returns-clause-half_the_turns
returns-clause-half_the_turns c caps capacity ran =
    elim (client_went_on caps capacity (load 1 1 3 4) 0 (record { number = 0; receipts = two_retries }) ran) [
      | inl turns ↦ omega (arith, turns)
      | inr done ↦ omega (arith, done)
    ]
