-- The machine: what may follow a state, replays, legal histories and runs.
use Rattle.std.specs.Prelude.{ℕ, Bool, true, false, cond, ◌&&◌, ◌==◌, List, [], ◌∷◌, ◌++◌, length, filter, Option, Some}
use Rattle.std.specs.{Prelude.{◌≡◌, None, is_some, option_and_then}, List.{list_all}}
use Rattle.dsa_base.specs.Rows.{when}
use Rattle.dsa_regs.specs.declared.Caps.{Caps}
use Rattle.dsa_book.specs.Commands.{issue, poll, write_queue, write_group, clear}
use Rattle.dsa_book.specs.State.{Setup, Intake, Work, State, opening}
use Rattle.dsa_book.specs.Work.{may_leave, dispatch, fetch, start, finish}
use Rattle.dsa_book.specs.declared.answer.ClearAnswer.TheVariants.{Cleared, Full}
use Rattle.dsa_book.specs.declared.answer.IssueAnswer.TheVariants.{Ended, Active, Full}
use Rattle.dsa_book.specs.declared.answer.PollAnswer.TheVariants.{Finished, Full}
use Rattle.dsa_book.specs.declared.answer.Reply.TheVariants.{Submit, Dispatch, Fetch, Start, Finish, Issue, Poll, Write}
use Rattle.dsa_book.specs.declared.answer.StartAnswer.TheVariants.{Started, Abandoned, Full}
use Rattle.dsa_book.specs.declared.answer.SubmitAnswer.TheVariants.{Accepted, Retry, Dropped, Full}
use Rattle.dsa_book.specs.declared.answer.WriteAnswer.TheVariants.{Written, Full}
use Rattle.dsa_book.specs.declared.answer.{DispatchAnswer.TheVariants.{Taken, Full}, Reply.{TheVariants.{Clear}, Reply}}
use Rattle.dsa_book.specs.declared.event.Event.TheVariants.{Submit, Dispatch, Fetch, Start, Finish, Issue, Poll}
use Rattle.dsa_book.specs.declared.event.Event.TheVariants.{WriteQueue, WriteGroup, ClearError}
use Rattle.dsa_book.specs.declared.{answer.FinishAnswer.TheVariants.{Done, Full}, event.{Event.{Event}, Step.{Step}}}
use Rattle.dsa_book.specs.{Choice.{Choice, choice_of, is_nothing, chosen_cell, may_enter}, Same.{same_reply}}
use Rattle.dsa_book.specs.{declared.answer.FetchAnswer.TheVariants.{Fetched, Full}, Submit.{submit}}

-- ---- the parts of a state that a step changed

-- with this work
abbrev pub with_work : State → Work → State
with_work s work = record s { work = work }

-- with this set-up and these entries
abbrev pub with_intake : State → Intake → State
with_intake s i = with_work s (record s.work { setup = i.setup; content = i.content })

-- with this set-up
abbrev pub state_with_setup : State → Setup → State
state_with_setup s setup = with_work s (record s.work { setup = setup })

-- what a submission sees of the state
abbrev pub intake_of : State → Intake
intake_of s = record { setup = s.work.setup; content = s.work.content }

-- ---- one step

-- what may be chosen at the event: a cell where an entry may come in, a queue where one is taken,
-- else nothing (profile)
abbrev pub may_choose : State → Event → Choice → Bool
may_choose s (Submit client queue portal kind desc) choice = may_enter s.work.setup s.work.content choice
may_choose s (Dispatch engine) choice = may_leave s.work engine choice
may_choose s (Fetch engine desc) choice = may_enter s.work.setup s.work.content choice
may_choose s event choice = is_nothing choice

-- a layer's answer as a reply, and what it leaves put back in the state
abbrev pub reply_with : {A X : Type 0} → (A → Reply) → (X → State) → A × X → Reply × State
reply_with reply put r = (reply r.0, put r.1)

-- the reply to an event, given what is free, and the state after it (profile)
abbrev pub reply_of : State → Event → Choice → Reply × State
reply_of s (Submit client queue portal kind desc) choice =
    reply_with Submit (with_intake s) (submit (intake_of s) queue portal kind desc (chosen_cell choice))
reply_of s (Dispatch engine) choice = reply_with Dispatch (with_work s) (dispatch s.work engine choice)
reply_of s (Fetch engine desc) choice = reply_with Fetch (with_work s) (fetch s.work engine desc (chosen_cell choice))
reply_of s (Start engine) choice = reply_with Start (with_work s) (start s.work engine)
reply_of s (Finish engine ticket outcome) choice = reply_with Finish (with_work s) (finish s.work engine ticket outcome)
reply_of s (Issue command) choice = reply_with Issue (λ after. after) (issue s command)
reply_of s Poll choice = reply_with Poll (λ after. after) (poll s)
reply_of s (WriteQueue queue config) choice = reply_with Write (state_with_setup s)
    (write_queue s.work.setup queue config)
reply_of s (WriteGroup group config) choice = reply_with Write (state_with_setup s)
    (write_group s.work.setup group config)
reply_of s ClearError choice = reply_with Clear (state_with_setup s) (clear s.work.setup)

-- the state after the event with this reply, where it is the machine's for a choice that may be made (profile)
abbrev pub next : State → Event → Reply → Option State
next s event reply =
    let choice = choice_of reply in
    let r = reply_of s event choice in
    when (may_choose s event choice && same_reply reply r.0) r.1

-- the event may have this reply in the first state, and leads to the second one
abbrev pub LeadsTo : State → Event → Reply → State → Type 0
LeadsTo s event reply s' = next s event reply ≡ Some s'

-- the replies that a history keeps (profile)
abbrev pub is_stored : Reply → Bool
is_stored (Submit (Accepted ticket)) = true
is_stored (Submit (Retry cause)) = true
is_stored (Submit (Dropped cause)) = true
is_stored (Dispatch (Taken ticket queue)) = true
is_stored (Fetch (Fetched ticket)) = true
is_stored (Start (Started ticket)) = true
is_stored (Start (Abandoned k)) = true
is_stored (Finish (Done status)) = true
is_stored (Issue (Ended aborted)) = true
is_stored (Issue Active) = true
is_stored (Poll Finished) = true
is_stored (Write Written) = true
is_stored (Clear (Cleared noted)) = true
is_stored _ = false

-- the history after a step
abbrev pub history_after : List Step → Step → List Step
history_after history step = cond (is_stored step.reply) (history ++ step ∷ []) history

-- ---- lists of steps

-- the state after these steps, where each may follow those before it
abbrev pub replay_from : Option State → List Step → Option State
replay_from s [] = s
replay_from None (step ∷ steps) = None
replay_from (Some s) (step ∷ steps) = replay_from (next s step.event step.reply) steps

-- the state that a history leads to, where each step may follow those before it
abbrev pub replay : Caps → List Step → Option State
replay caps history = replay_from (Some (opening caps)) history

-- the history leads to this state, and each of its steps may follow those before it
abbrev pub Reaches : Caps → List Step → State → Type 0
Reaches caps history s = replay caps history ≡ Some s

-- a history: each step is one that is kept, and may follow those before it (profile)
abbrev pub is_legal : Caps → List Step → Bool
is_legal caps history = list_all (λ step. is_stored step.reply) history && is_some (replay caps history)

-- the reply Full of the event's own kind (profile)
abbrev pub full_reply : Event → Reply
full_reply (Submit client queue portal kind desc) = Submit Full
full_reply (Dispatch engine) = Dispatch Full
full_reply (Fetch engine desc) = Fetch Full
full_reply (Start engine) = Start Full
full_reply (Finish engine ticket outcome) = Finish Full
full_reply (Issue command) = Issue Full
full_reply Poll = Poll Full
full_reply (WriteQueue queue config) = Write Full
full_reply (WriteGroup group config) = Write Full
full_reply ClearError = Clear Full

-- whether it is that reply
abbrev pub is_full_reply : Event → Reply → Bool
is_full_reply event reply = same_reply reply (full_reply event)

-- the steps of a list that a history keeps
abbrev pub stored_steps : List Step → List Step
stored_steps steps = filter (λ step. is_stored step.reply) steps

-- the step may come where this history of a device with this capacity stands (profile)
abbrev pub may_follow : Caps → ℕ → List Step → Step → Bool
may_follow caps capacity history step =
    cond (length history == capacity)
    (is_full_reply step.event step.reply)
    (is_some (option_and_then (λ s. next s step.event step.reply) (replay caps history)))

-- the steps may come one after the other, after this history
abbrev pub is_run_after : Caps → ℕ → List Step → List Step → Bool
is_run_after caps capacity history [] = true
is_run_after caps capacity history (step ∷ steps) =
    may_follow caps capacity history step
    && is_run_after caps capacity (history ++ stored_steps (step ∷ [])) steps

-- what a device of this capacity may answer, step by step (profile)
abbrev pub is_run : Caps → ℕ → List Step → Bool
is_run caps capacity steps = is_run_after caps capacity [] steps
