-- The submissions of a run, whose they are, and how many were answered in which way.
use Rattle.dsa_book.specs.declared.answer.Reply.TheVariants as reply
use Rattle.dsa_book.specs.declared.answer.SubmitAnswer.TheVariants as submit
use Rattle.dsa_book.specs.declared.event.Event.TheVariants as event
use Rattle.std.specs.Prelude.{ℕ, ◌+◌, ◌==◌, ◌&&◌, max, Bool, true, false, List, [], ◌∷◌, Option, Some, None, count_by}
use Rattle.std.specs.List.{list_any}
use Rattle.dsa_book.specs.declared.answer.Cause.{Cause, TheVariants.{AtLimit, NotEnabled, WrongKind}}
use Rattle.dsa_book.specs.declared.answer.{Reply.{Reply}, SubmitAnswer.{SubmitAnswer}}
use Rattle.dsa_book.specs.declared.event.Event.{Event}
use Rattle.dsa_scenario.specs.declared.run.Record.{Record, TheVariants.{Stepped, Refused}}
use Rattle.dsa_count.specs.declared.submissions.Submission.{Submission}
use Rattle.dsa_count.specs.declared.submissions.Party.{Party, TheVariants.{All, Client, Queue}}

-- the submission that was answered so
abbrev pub answered_submission : ℕ → ℕ → Reply → Option Submission
answered_submission client queue (reply.Submit answer) =
    Some (record { client = client; queue = queue; answer = answer })
answered_submission client queue _ = None

abbrev pub submission_by : Event → Reply → Option Submission
submission_by (event.Submit client queue portal kind desc) made = answered_submission client queue made
submission_by _ made = None

-- the submission of a record, where it is one
abbrev pub submission_in : Record → Option Submission
submission_in (Stepped step) = submission_by step.event step.reply
submission_in (Refused fault) = None

-- ---- whose they are

-- the client or the queue that a submission names; where all are counted together, they have one number
abbrev pub number_in : Party → Submission → ℕ
number_in All made = 0
number_in Client made = made.client
number_in Queue made = made.queue

-- a submission names this client or this queue
abbrev pub is_party_named : Party → ℕ → List Submission → Bool
is_party_named party number submissions = list_any (λ made. number_in party made == number) submissions

-- one more than the greatest that is named; 0 where none is
abbrev pub above : Party → List Submission → ℕ
above party [] = 0
above party (made ∷ submissions) = max (number_in party made + 1) (above party submissions)

-- ---- how they were answered

abbrev pub is_accepted_answer : SubmitAnswer → Bool
is_accepted_answer (submit.Accepted ticket) = true
is_accepted_answer _ = false

abbrev pub is_cause : Cause → Cause → Bool
is_cause AtLimit AtLimit = true
is_cause NotEnabled NotEnabled = true
is_cause WrongKind WrongKind = true
is_cause _ _ = false

-- both turned their submissions away, in the same way and for the same cause
abbrev pub is_alike : SubmitAnswer → SubmitAnswer → Bool
is_alike (submit.Retry cause) (submit.Retry other) = is_cause cause other
is_alike (submit.Dropped cause) (submit.Dropped other) = is_cause cause other
is_alike submit.Full submit.Full = true
is_alike _ _ = false

-- how many of a client, or to a queue, were accepted
abbrev pub accepted_of : Party → ℕ → List Submission → ℕ
accepted_of party number submissions =
    count_by (λ made. (number_in party made == number) && is_accepted_answer made.answer) submissions

-- how many of them were turned away so
abbrev pub turned_away_of : Party → ℕ → SubmitAnswer → List Submission → ℕ
turned_away_of party number answer submissions =
    count_by (λ made. (number_in party made == number) && is_alike answer made.answer) submissions
