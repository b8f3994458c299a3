-- Actors, and what a list of steps adds up to.
use Rattle.std.specs.Prelude.{ℕ, Bool, true, false, ◌==◌, List, filter, sum_by, count_by}
use Rattle.dsa_book.specs.declared.answer.Reply.{Reply, TheVariants.{Submit, Fetch, Start, Finish, Issue}}
use Rattle.dsa_book.specs.declared.answer.{IssueAnswer.TheVariants.{Ended}, Cause.TheVariants.{AtLimit}}
use Rattle.dsa_book.specs.declared.answer.{StartAnswer.TheVariants.{Abandoned}, FetchAnswer.TheVariants.{Fetched}}
use Rattle.dsa_book.specs.declared.answer.{SubmitAnswer.TheVariants.{Accepted, Retry}, FinishAnswer.TheVariants.{Done}}
use Rattle.dsa_book.specs.declared.event.Event.{Event, TheVariants.{Submit, Dispatch, Fetch, Start, Finish}}
use Rattle.dsa_book.specs.declared.event.{Actor.{Actor, TheVariants.{Client, Engine, Admin}}, Step.{Step}}

-- submissions are a client's, work is an engine's, all else is the administrator's (profile)
abbrev pub actor_of : Event → Actor
actor_of (Submit client queue portal kind desc) = Client client
actor_of (Dispatch engine) = Engine engine
actor_of (Fetch engine desc) = Engine engine
actor_of (Start engine) = Engine engine
actor_of (Finish engine ticket outcome) = Engine engine
actor_of _ = Admin

-- the same actor
abbrev pub same_actor : Actor → Actor → Bool
same_actor (Client a) (Client b) = a == b
same_actor (Engine a) (Engine b) = a == b
same_actor Admin Admin = true
same_actor _ _ = false

-- the actor's own steps, in order
abbrev pub steps_of_actor : List Step → Actor → List Step
steps_of_actor steps actor = filter (λ step. same_actor (actor_of step.event) actor) steps

-- the step accepted a submission
abbrev pub is_accepted : Reply → Bool
is_accepted (Submit (Accepted ticket)) = true
is_accepted _ = false

-- turned away for want of room
abbrev pub is_retried : Reply → Bool
is_retried (Submit (Retry AtLimit)) = true
is_retried _ = false

-- the step fetched a member
abbrev pub is_fetched : Reply → Bool
is_fetched (Fetch (Fetched ticket)) = true
is_fetched _ = false

-- the step ended an entry
abbrev pub is_done : Reply → Bool
is_done (Finish (Done status)) = true
is_done _ = false

-- how many entries the step aborted or abandoned
abbrev pub lost_by : Reply → ℕ
lost_by (Start (Abandoned k)) = k
lost_by (Issue (Ended aborted)) = aborted
lost_by _ = 0

-- how many submissions were accepted
abbrev pub total_accepted : List Step → ℕ
total_accepted steps = count_by (λ step. is_accepted step.reply) steps

-- how many were turned away for want of room
abbrev pub total_retried : List Step → ℕ
total_retried steps = count_by (λ step. is_retried step.reply) steps

-- how many members were fetched
abbrev pub total_fetched : List Step → ℕ
total_fetched steps = count_by (λ step. is_fetched step.reply) steps

-- how many entries an engine ended
abbrev pub total_done : List Step → ℕ
total_done steps = count_by (λ step. is_done step.reply) steps

-- how many entries were aborted or abandoned
abbrev pub total_lost : List Step → ℕ
total_lost steps = sum_by (λ step. lost_by step.reply) steps
