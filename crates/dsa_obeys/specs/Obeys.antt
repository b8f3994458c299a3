-- What it means that a log obeys a script: who makes each step, and that it is the next one of its maker. Nothing here
-- uses what parties ask for in a walk. A log has plain events, names and tickets; an entry or an act of the script has
-- the number at which it stands there.
use Rattle.dsa_book.specs.contracts.event.EventPartialEq.TheImpl as event_eq
use Rattle.std.specs.Prelude.{◌≡◌, ℕ, ◌+◌, Bool, true, false, not, cond, ◌&&◌, ◌||◌, ◌==◌, nat_lt, nat_le, List, []}
use Rattle.std.specs.Prelude.{◌∷◌, length, map, filter, find, Option, Some, None, slice_get, unwrap_or, is_some}
use Rattle.std.specs.Prelude.{option_map, option_and_then}
use Rattle.std.specs.List.{list_any, list_all}
use Rattle.dsa_base.specs.{Rows.{passes}, Numbers.{numbers_below}}
use Rattle.dsa_desc.specs.declared.Descriptor.{Descriptor}
use Rattle.dsa_desc.specs.declared.Outcome.{Outcome, TheVariants.{Success, PageFault}}
use Rattle.dsa_regs.specs.declared.Fault.{TheVariants.{Busy}}
use Rattle.dsa_book.specs.declared.answer.SubmitAnswer.TheVariants.{Accepted, Retry}
use Rattle.dsa_book.specs.declared.answer.FetchAnswer.TheVariants.{Fetched}
use Rattle.dsa_book.specs.declared.answer.IssueAnswer.TheVariants.{Refused}
use Rattle.dsa_book.specs.declared.answer.PollAnswer.{PollAnswer, TheVariants.{Finished, Nothing}}
use Rattle.dsa_book.specs.declared.answer.Reply.{Reply, TheVariants.{Submit, Fetch, Issue, Poll}}
use Rattle.dsa_book.specs.declared.event.{Event.{Event}, Step.{Step}}
use Rattle.dsa_book.specs.declared.event.Event.TheVariants.{Submit, Dispatch, Fetch, Start, Finish, Issue, Poll}
use Rattle.dsa_book.specs.declared.event.Event.TheVariants.{WriteQueue, WriteGroup, ClearError}
use Rattle.dsa_book.specs.declared.note.BatchNote.{BatchNote}
use Rattle.dsa_book.specs.{State.{State}, Work.{note_at}, Machine.{next, is_full_reply}, Totals.{is_fetched}}
use Rattle.dsa_parties.specs.declared.script.{ClientScript.{ClientScript}, Part.{Part}, Script.{Script}}
use Rattle.dsa_parties.specs.declared.script.{ScriptEntry.{ScriptEntry}, Submission.{Submission}}
use Rattle.dsa_parties.specs.declared.script.Act.{Act}
use Rattle.dsa_parties.specs.declared.script.Act.TheVariants.{Issue, Poll, WriteQueue, WriteGroup, ClearError}
use Rattle.dsa_parties.specs.Scripts.{submission_at, is_member_at}
use Rattle.dsa_parties.specs.declared.script.Origin.{Origin, TheVariants.{Submitted, Fetched}}
use Rattle.dsa_parties.specs.declared.script.Outcomes.{Outcomes, TheVariants.{SuccessAlone, PageFaultAlone, Both}}
use Rattle.dsa_parties.specs.declared.script.RetryPolicy.{RetryPolicy, TheVariants.{Again, AtMost}}
use Rattle.dsa_parties.specs.declared.script.Until.{Until, TheVariants.{Once, Finished, Over}}

-- ---- a log

-- who makes a step, and for what: client c submits entry n, administrator a does act k, an engine fetches entry n, or
-- an engine makes any other step
pub data Doer : Type 0 where
  submits : ℕ → ℕ → Doer
  does : ℕ → ℕ → Doer
  fetches : ℕ → Doer
  works : Doer

-- a step, and who makes it
pub record LogLine : Type 0 where
  pub step : Step
  pub doer : Doer

-- what is submitted, done or fetched, by its number in the script
abbrev pub number_of : Doer → Option ℕ
number_of (submits c n) = Some n
number_of (does a k) = Some k
number_of (fetches n) = Some n
number_of works = None

-- it is this number that is submitted, done or fetched
abbrev pub is_of_number : ℕ → Doer → Bool
is_of_number n doer = passes (λ k. k == n) (number_of doer)

-- it is a submission of client c
abbrev pub is_by_client : ℕ → Doer → Bool
is_by_client c (submits d n) = d == c
is_by_client c doer = false

-- it is an act of administrator a
abbrev pub is_by_administrator : ℕ → Doer → Bool
is_by_administrator a (does b k) = b == a
is_by_administrator a doer = false

-- the lines of client c
abbrev pub client_lines : ℕ → List LogLine → List LogLine
client_lines c log = filter (λ (line : LogLine). is_by_client c line.doer) log

-- the lines of administrator a
abbrev pub administrator_lines : ℕ → List LogLine → List LogLine
administrator_lines a log = filter (λ (line : LogLine). is_by_administrator a line.doer) log

-- ---- what a step asks for

-- the same event
abbrev pub is_event : Event → Event → Bool
is_event a b = event_eq.eq-value.it a b

-- what a client with this number asks for when it submits an entry; a member is not submitted
abbrev pub event_of_entry : ℕ → Descriptor → Origin → Option Event
event_of_entry number desc (Submitted s) = Some (Submit number s.queue s.portal s.kind desc)
event_of_entry number desc (Fetched batch) = None

-- what an administrator asks for by an act
abbrev pub event_of_act : Act → Event
event_of_act (Issue command again) = Issue command
event_of_act (Poll until) = Poll
event_of_act (WriteQueue queue config) = WriteQueue queue config
event_of_act (WriteGroup group config) = WriteGroup group config
event_of_act ClearError = ClearError

-- what a client or an administrator of the script asks for, where there are such
abbrev pub event_asked : Script → Doer → Option Event
event_asked script (submits c n) = option_and_then
    (λ (client : ClientScript). option_and_then
    (λ (entry : ScriptEntry). event_of_entry client.number entry.desc entry.origin) (slice_get script.entries.items n))
    (slice_get script.clients.items c)
event_asked script (does a k) = option_and_then
    (λ (part : Part). option_map event_of_act (slice_get script.acts.items k)) (slice_get script.administrators.items a)
event_asked script doer = None

-- ---- the steps of engines

-- the engine is one of the script's
abbrev pub takes_part : Script → ℕ → Bool
takes_part script e = list_any (λ k. k == e) script.engines.items

-- the answer gave this name to an entry of the device
abbrev pub gives : ℕ → Reply → Bool
gives name (Submit (Accepted ticket)) = ticket.name == name
gives name (Fetch (Fetched ticket)) = ticket.name == name
gives name reply = false

-- the entry of the script that has this name, by the lines before, the latest first
abbrev pub entry_named : List LogLine → ℕ → Option ℕ
entry_named before name = option_and_then (λ (line : LogLine). number_of line.doer)
    (find (λ (line : LogLine). gives name line.step.reply) before)

-- an engine may end an entry so
abbrev pub fits_outcome : Outcomes → Outcome → Bool
fits_outcome SuccessAlone Success = true
fits_outcome PageFaultAlone PageFault = true
fits_outcome Both outcome = true
fits_outcome outcomes outcome = false

-- the entry of the script with this number may end so
abbrev pub may_end : Script → ℕ → Outcome → Bool
may_end script n outcome =
    passes (λ (entry : ScriptEntry). fits_outcome entry.outcomes outcome) (slice_get script.entries.items n)

-- entry n is the next member of the batch in this note
abbrev pub is_next_of : Script → List LogLine → ℕ → BatchNote → Bool
is_next_of script before n note = passes
    (λ batch. is_member_at script.entries.items batch n && n == batch + 1 + note.fetched)
    (entry_named before note.batch)

-- the engine fetches entry n: it is the next member of the batch that the engine works on, and has its descriptor
abbrev pub is_fetch_of : Script → List LogLine → State → ℕ → ℕ → Descriptor → Bool
is_fetch_of script before s n e desc =
    passes (is_next_of script before n) (note_at s.work e)
    && passes (λ (entry : ScriptEntry). is_event (Fetch e entry.desc) (Fetch e desc))
    (slice_get script.entries.items n)

-- the engine's step is due: the engine takes part, what it fetches is the next member of its batch, and what it ends
-- may end so. A fetch that is answered otherwise brings in nothing
abbrev pub is_work : Script → List LogLine → State → Doer → Event → Reply → Bool
is_work script before s (fetches n) (Fetch e desc) (Fetch (Fetched ticket)) =
    takes_part script e && is_fetch_of script before s n e desc
is_work script before s works (Fetch e desc) reply = takes_part script e && not (is_fetched reply)
is_work script before s works (Dispatch e) reply = takes_part script e
is_work script before s works (Start e) reply = takes_part script e
is_work script before s works (Finish e ticket outcome) reply =
    takes_part script e
    && unwrap_or (option_map (λ n. may_end script n outcome) (entry_named before ticket.name)) true
is_work script before s doer event reply = false

-- ---- the order of a party's steps

-- the number stands in the part
abbrev pub is_within_part : Part → ℕ → Bool
is_within_part part n = nat_le part.first n && nat_lt n part.end

-- what a client submits, in order; members are not submitted
abbrev pub to_submit : List ScriptEntry → Part → List ℕ
to_submit entries part =
    filter (λ n. is_within_part part n && is_some (submission_at entries n)) (numbers_below (length entries))

-- what an administrator does, in order
abbrev pub to_do : List Act → Part → List ℕ
to_do acts part = filter (is_within_part part) (numbers_below (length acts))

-- a client that was told to retry so often before submits the same again after this answer
abbrev pub submits_again : RetryPolicy → ℕ → Reply → Bool
submits_again Again retries (Submit (Retry cause)) = true
submits_again (AtMost most) retries (Submit (Retry cause)) = nat_lt retries most
submits_again policy retries reply = false

-- a poll until then is not over with this answer
abbrev pub polls_again : Until → PollAnswer → Bool
polls_again Once answer = false
polls_again Finished Finished = false
polls_again Over Finished = false
polls_again Over Nothing = false
polls_again until answer = true

-- an administrator asks for the same again after this answer
abbrev pub asks_again : Act → Reply → Bool
asks_again (Issue command true) (Issue (Refused Busy)) = true
asks_again (Poll until) (Poll answer) = polls_again until answer
asks_again act reply = false

-- these lines submit these entries, one after the other, and each again as its policy says; the first was turned away
-- so often before
abbrev pub submit_in_order : List ScriptEntry → List ℕ → ℕ → List LogLine → Bool
submit_in_order entries left retries [] = true
submit_in_order entries [] retries (line ∷ lines) = false
submit_in_order entries (n ∷ left) retries (line ∷ lines) =
    let again = passes (λ (s : Submission). submits_again s.retry retries line.step.reply) (submission_at entries n) in
    is_of_number n line.doer
    && submit_in_order entries (cond again (n ∷ left) left) (cond again (retries + 1) 0) lines

-- these lines do these acts, one after the other, and each again while it is not over
abbrev pub do_in_order : List Act → List ℕ → List LogLine → Bool
do_in_order acts left [] = true
do_in_order acts [] (line ∷ lines) = false
do_in_order acts (k ∷ left) (line ∷ lines) =
    let again = passes (λ act. asks_again act line.step.reply) (slice_get acts k) in
    is_of_number k line.doer && do_in_order acts (cond again (k ∷ left) left) lines

-- ---- the whole log

-- the step is one that its maker asks for: a client or an administrator by the script, an engine by what it works on
abbrev pub is_due : Script → List LogLine → State → LogLine → Bool
is_due script before s line =
    passes (is_event line.step.event) (event_asked script line.doer)
    || is_work script before s line.doer line.step.event line.step.reply

-- the state after a step that may come
abbrev pub state_behind : State → Step → State
state_behind s step = unwrap_or (next s step.event step.reply) s

-- each step is one that its maker asks for, where it stands in the log
abbrev pub are_due : Script → List LogLine → State → List LogLine → Bool
are_due script before s [] = true
are_due script before s (line ∷ lines) =
    is_due script before s line && are_due script (line ∷ before) (state_behind s line.step) lines

-- client c submits what its part of the script says, in order
abbrev pub is_client_in_order : Script → List LogLine → ℕ → Bool
is_client_in_order script log c = passes
    (λ (client : ClientScript). submit_in_order script.entries.items (to_submit script.entries.items client.part) 0
    (client_lines c log))
    (slice_get script.clients.items c)

-- administrator a does what its part of the script says, in order
abbrev pub is_administrator_in_order : Script → List LogLine → ℕ → Bool
is_administrator_in_order script log a = passes
    (λ part. do_in_order script.acts.items (to_do script.acts.items part) (administrator_lines a log))
    (slice_get script.administrators.items a)

-- the log, from this state on, obeys the script
abbrev pub obeys : Script → State → List LogLine → Bool
obeys script s log =
    are_due script [] s log
    && list_all (is_client_in_order script log) (numbers_below (length script.clients.items))
    && list_all (is_administrator_in_order script log) (numbers_below (length script.administrators.items))

-- the steps but those for which the history had no room, which are no answers of a device
abbrev pub with_answers : List Step → List Step
with_answers steps = filter (λ (step : Step). not (is_full_reply step.event step.reply)) steps

-- somebody made each of the steps, so that they obey the script from this state on
pub record Obeys (script : Script) (s : State) (steps : List Step) : Type 0 where
  pub log : List LogLine
  pub steps_are : map (λ (line : LogLine). line.step) log ≡ with_answers steps
  pub holds : obeys script s log ≡ true
