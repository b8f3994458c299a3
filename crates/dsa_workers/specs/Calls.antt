-- What the next call of each worker is, after those that it has made.
use Rattle.std.specs.Prelude.{◌≡◌, ℕ, ◌<◌, Bool, true, false, not, cond, ◌≤◌, ◌%◌, ◌==◌, ◌++◌, List, [], ◌∷◌, length}
use Rattle.std.specs.Prelude.{take, drop, fold, filter_map, count_by, Option, Some, None, IfSome, slice_get}
use Rattle.std.specs.Prelude.{slice_index_or}
use Rattle.std.specs.Option.{option_map, option_map_or}
use Rattle.dsa_desc.specs.Descriptor.{read}
use Rattle.dsa_regs.specs.declared.{Caps.{Caps}, Command.{Command}}
use Rattle.dsa_book.specs.declared.answer.Cause.TheVariants.{AtLimit}
use Rattle.dsa_book.specs.declared.answer.SubmitAnswer.TheVariants.{Accepted, Retry, Dropped, Full}
use Rattle.dsa_book.specs.declared.answer.{DispatchAnswer.TheVariants.{Taken, Full}, FetchAnswer.TheVariants.{Full}}
use Rattle.dsa_book.specs.declared.answer.StartAnswer.TheVariants.{Started, Full}
use Rattle.dsa_book.specs.declared.answer.FinishAnswer.TheVariants.{Done, NotReady, Gone, Full}
use Rattle.dsa_book.specs.declared.answer.IssueAnswer.TheVariants.{Ended, Refused, Full}
use Rattle.dsa_book.specs.declared.answer.{PollAnswer.TheVariants.{Finished, Full}, Ticket.{Ticket}}
use Rattle.dsa_book.specs.declared.answer.Reply.{Reply}
use Rattle.dsa_book.specs.declared.answer.Reply.TheVariants.{Submit, Dispatch, Fetch, Start, Finish, Issue, Poll}
use Rattle.dsa_book.specs.declared.event.Event.{Event}
use Rattle.dsa_book.specs.declared.event.Event.TheVariants.{Submit, Dispatch, Fetch, Start, Finish, Issue, Poll}
use Rattle.dsa_book.specs.{declared.event.Step.{Step}, Machine.{stored_steps}, Same.{same_cause}}
use Rattle.dsa_shared.specs.{Seat.{SeatLog, with_receipt}, Locked.{IsAnsweredFor}}
use Rattle.dsa_workers.specs.declared.scripts.{ClientStep.{ClientStep}, EngineScript.{EngineScript}}

-- each of these is what may come after those before it
abbrev pub InOrder : {T : Type 0} → (List T → T → Type 0) → List T → Type 0
InOrder {T} next turns = (k : ℕ) (d : T) → k < length turns → next (take k turns) (slice_index_or turns k d)

-- the history has no room
abbrev pub is_history_full : Reply → Bool
is_history_full (Submit Full) = true
is_history_full (Dispatch Full) = true
is_history_full (Fetch Full) = true
is_history_full (Start Full) = true
is_history_full (Finish Full) = true
is_history_full (Issue Full) = true
is_history_full (Poll Full) = true
is_history_full _ = false

-- the worker goes on to the next step of its script
abbrev pub goes_on : Reply → Bool
goes_on (Submit (Accepted ticket)) = true
goes_on (Submit (Dropped cause)) = true
goes_on (Submit (Retry cause)) = not (same_cause cause AtLimit)
goes_on (Issue (Ended aborted)) = true
goes_on (Issue (Refused fault)) = true
goes_on (Poll Finished) = true
goes_on _ = false

-- the reply of the call is what some device that the lock may keep answers, which is not older than the receipts
abbrev pub IsCallAnswered : Caps → ℕ → List Step → Step → Type 0
IsCallAnswered caps capacity receipts call = IsAnsweredFor caps capacity receipts call.event call.reply

-- how many steps of its script the worker is through with after these calls
abbrev pub steps_done : List Step → ℕ
steps_done calls = count_by (λ call. goes_on call.reply) calls

-- how many of these calls found the history full
abbrev pub found_full : List Step → ℕ
found_full calls = count_by (λ call. is_history_full call.reply) calls

-- the last of these calls, if there is one, left the worker with the same step
abbrev pub is_worker_waiting : List Step → Bool
is_worker_waiting calls = fold (λ before call. not (goes_on call.reply)) false calls

-- the submission of a step of a client's script
abbrev pub submission_of_client_step : ℕ → ClientStep → Event
submission_of_client_step client step = Submit client step.queue step.portal step.kind (read step.bytes)

-- a client, from the seat that it was lent, submits the first step of its script that it is not through with
abbrev pub NextSubmission : Caps → ℕ → SeatLog → List ClientStep → List Step → Step → Type 0
NextSubmission caps capacity seat script calls call =
    IsCallAnswered caps capacity (seat.receipts ++ stored_steps calls) call × ((d : ClientStep) → call.event
    ≡ submission_of_client_step seat.number (slice_index_or script (steps_done calls) d))

-- the administrator, from the receipts that it had, asks after a command that waits, and else issues the first
-- one that it is not through with
abbrev pub NextCommand : Caps → ℕ → List Step → List Command → List Step → Step → Type 0
NextCommand caps capacity receipts script calls call =
    IsCallAnswered caps capacity (receipts ++ stored_steps calls) call
    × ((d : Command) → call.event ≡ cond (is_worker_waiting calls) Poll
    (Issue (slice_index_or script (steps_done calls) d)))

-- the tickets of an engine's worker, oldest first, and the room for more
pub record Pending : Type 0 where
  pub tickets : List Ticket
  pub room : ℕ

-- no ticket, and room for so many
abbrev pub HasRoomForTickets : Pending → ℕ → Type 0
HasRoomForTickets pending most = (pending.tickets ≡ []) × (most ≤ pending.room)

-- the tickets after an answer: a new one comes last, one that is not ready goes last, one that is over
-- is dropped
abbrev pub tickets_after : List Ticket → Reply → List Ticket
tickets_after tickets (Dispatch (Taken ticket queue)) = tickets ++ ticket ∷ []
tickets_after tickets (Start (Started ticket)) = tickets ++ ticket ∷ []
tickets_after tickets (Finish NotReady) = drop 1 tickets ++ take 1 tickets
tickets_after tickets (Finish (Done status)) = drop 1 tickets
tickets_after tickets (Finish Gone) = drop 1 tickets
tickets_after tickets _ = tickets

-- the calls of these turns, some of which have none
abbrev pub calls_of : List (Option Step) → List Step
calls_of turns = filter_map (λ turn. turn) turns

-- the tickets that these turns left
abbrev pub tickets_of : List (Option Step) → List Ticket
tickets_of turns = fold (λ tickets call. tickets_after tickets call.reply) [] (calls_of turns)

-- what an engine's worker calls in a turn: it dispatches, fetches, starts and finishes in turn;
-- it finishes the entry of its oldest ticket, and calls nothing where it has none
abbrev pub engine_event : ℕ → EngineScript → ℕ → List Ticket → Option Event
engine_event engine script turn tickets =
    cond (turn % 4 == 0) (Some (Dispatch engine))
    (cond (turn % 4 == 1) (Some (Fetch engine script.member))
    (cond (turn % 4 == 2) (Some (Start engine))
    (option_map (λ ticket. Finish engine ticket script.outcome) (slice_get tickets 0))))

-- the call of a turn, if it has one
abbrev pub call_of : Option Event → Option Reply → Option Step
call_of (Some event) (Some reply) = Some (record { event = event; reply = reply })
call_of _ _ = None

-- a seat after a turn
abbrev pub after_turn : SeatLog → Option Step → SeatLog
after_turn seat turn = option_map_or (λ call. with_receipt seat call.event call.reply) turn seat

-- the turn of an engine's worker, from the seat that it was lent, after those before it
abbrev pub NextTurn : Caps → ℕ → SeatLog → EngineScript → List (Option Step) → Option Step → Type 0
NextTurn caps capacity seat script turns turn =
    IfSome turn (IsCallAnswered caps capacity (seat.receipts ++ stored_steps (calls_of turns)))
    × (option_map (λ call. call.event) turn ≡ engine_event seat.number script (length turns) (tickets_of turns))
