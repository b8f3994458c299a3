use Rattle.dsa_conform.proofs.rows.verdicts.Goals as goal
use Rattle.dsa_book.specs.declared.answer.Reply.TheVariants as reply
use Rattle.dsa_book.specs.declared.event.Event.TheVariants as event
use Rattle.dsa_book.specs.declared.answer.PollAnswer.TheVariants as poll
use Rattle.std.proofs.Common.{◌≡◌, ◌∙◌, ℕ, true, false, List, [], ◌∷◌, Some, Ok, length, take, codes, bytes_eq, refl}
use Rattle.std.proofs.Common.{sym, ap, subst, lit≤}
use Rattle.std.{specs.{Prelude.{slice_get}, Fmt.{digits}}, proofs.lemmas.Option.{same_Some}}
use Rattle.dsa_base.specs.Lists.{In}
use Rattle.dsa_regs.specs.declared.Fault.{TheVariants.{BadCommand}}
use Rattle.dsa_book.specs.declared.{answer.{Reply.{Reply}, WriteAnswer.TheVariants.{Written}}, event.Event.{Event}}
use Rattle.dsa_book.specs.Machine.{full_reply}
use Rattle.dsa_book.proofs.EqualReplies.{equal-replies}
use Rattle.dsa_device.{specs.Running.{Running, running_at_first, after_answer}, proofs.Steps.{answered_by_cases}}
use Rattle.dsa_scenario.specs.Worked.{no_command}
use Rattle.dsa_scenario.specs.declared.{actions.Action.{Action, TheVariants.{Ask, Refuse}}, run.Record.{Record}}
use Rattle.dsa_scenario.specs.declared.run.Record.TheVariants.{Stepped, Refused}
use Rattle.dsa_scenario.specs.{Run.{answered_by, Leads}, Steps.{standing}}
use Rattle.dsa_scenario.specs.Worked.{smallest_caps, stepped, group_of_a_run, object_of, poll_step}
use Rattle.dsa_conform.specs.Allowed.{IsAllowed}
use Rattle.dsa_conform.specs.Lines.{conforms_text, seen_count, difference_text}
use Rattle.dsa_conform.specs.Run.{IsShownRun, IsDifference, IsConforming}
use Rattle.dsa_conform.specs.{Seen.{Seen, nothing_seen, shows}, Worked.{answered, smallest_device_at_first}}
use Rattle.dsa_conform.proofs.{SeenAlike.{only_entry}, Objects.{not_first, not_second, one_read}}
use Rattle.dsa_conform.proofs.RowRuns.{LeadTo, differs, smallest_replay, word_leads, nothing, is_nothing, only_nothing}
use Rattle.dsa_conform.proofs.RowRuns.{not_answered_so}

-- ---- a device whose history has no room

abbrev written : Record
written = stepped (event.WriteGroup 0 group_of_a_run) (reply.Write Written)

abbrev filled : Running
filled = standing smallest_caps 1 (written ∷ [])

-- it answers a poll so, and in no other way
abbrev full : Record
full = stepped event.Poll (reply.Poll poll.Full)

is_full : IsAllowed filled (Ok event.Poll) full
is_full = record { answers = refl; after = _; leads = refl }

full_step : (e : Event) (answer : Reply) (after : Running) → answered_by (stepped e answer) ≡ Ok event.Poll
    → after_answer filled e answer ≡ Some after → full ≡ stepped e answer
full_step event.Poll answer after asked leads =
    answered_by_cases (λ d. full ≡ stepped event.Poll answer) filled after event.Poll answer leads
    (λ room first. ap (stepped event.Poll) (sym (equal-replies answer (full_reply event.Poll) first)))
    (λ s room follows. absurd cc)
full_step _ answer after asked leads = absurd cc

only_full : (entry : Record) → IsAllowed filled (Ok event.Poll) entry → full ≡ entry
only_full (Refused fault) is = absurd (let other = is.answers in cc)
only_full (Stepped step) is = full_step step.event step.reply is.after is.answers is.leads

only_written : (entry : Record) → IsAllowed (running_at_first smallest_caps 1)
    (Ok (event.WriteGroup 0 group_of_a_run)) entry
    → written ≡ entry
only_written entry is = only_entry (running_at_first smallest_caps 1) _ is.after (event.WriteGroup 0 group_of_a_run)
    (reply.Write Written) refl
    (λ b same. same) refl entry is.answers is.leads

-- the write leads there alone
write_leads : LeadTo smallest_caps 1 ((Ask (event.WriteGroup 0 group_of_a_run), nothing_seen) ∷ [])
    (Ask event.Poll) filled (Ok event.Poll)
write_leads [] after h = absurd h
write_leads (r ∷ []) after h =
    let is : IsAllowed (running_at_first smallest_caps 1) (Ok (event.WriteGroup 0 group_of_a_run)) r =
    record { answers = h.1.answers; after = h.0; leads = h.1.leads } in
    let leads : Leads (running_at_first smallest_caps 1) written h.0 =
    subst (λ x. Leads (running_at_first smallest_caps 1) x h.0) (sym (only_written r is)) h.1.leads in
    (sym h.2 ∙ sym (same_Some filled h.0 leads), refl)
write_leads (r ∷ q ∷ rs) after h = absurd h.2

pub returns-clause-after_one : goal.returns-clause-after_one
unfolding digits
returns-clause-after_one c =
    differs smallest_caps 1 ((Ask (event.WriteGroup 0 group_of_a_run), nothing_seen) ∷ [])
    (Ask event.Poll, answered (codes "nothing")) 1 filled (Ok event.Poll) full (written ∷ [])
    (smallest_replay 1 (lit≤ tt)) (record { of_actions = (refl, tt); run = refl; shown = (refl, tt) })
    write_leads is_full only_full refl

-- ---- one that has made no step

pub returns-clause-second : goal.returns-clause-second
unfolding digits
returns-clause-second c = record {
  observed = (Refuse no_command, nothing_seen) ∷ (Ask event.Poll, answered (codes "active")) ∷ [];
  read = refl;
  here = _;
  at = refl;
  differs = differs smallest_caps 9 ((Refuse no_command, nothing_seen) ∷ [])
      (Ask event.Poll, answered (codes "active")) 1
      smallest_device_at_first (Ok event.Poll) nothing (Refused no_command ∷ []) (smallest_replay 9 (lit≤ tt))
      (record { of_actions = (refl, tt); run = refl; shown = (refl, tt) }) word_leads is_nothing only_nothing refl;
}

-- a poll of which this was seen is a run
poll_run : (seen : Seen) → shows seen nothing ≡ true → IsShownRun smallest_caps 9 ((Ask event.Poll, seen) ∷ [])
    (nothing ∷ [])
poll_run seen shown = record { of_actions = (refl, tt); run = refl; shown = (shown, tt) }

pub returns-clause-shown : goal.returns-clause-shown
unfolding digits
returns-clause-shown c is = is.none (nothing ∷ []) (poll_run (answered (codes "nothing")) refl)

-- a text with a line is not empty
not_empty : (fact : List ℕ) (lines : List (Record × List ℕ)) (line : Record × List ℕ) → In line lines
    → [] ≡ difference_text 0 (answered (codes "active")) fact lines → ⊥
not_empty fact [] line among told = absurd among
not_empty fact (line ∷ lines) other among told = absurd cc

pub returns-clause-untold : goal.returns-clause-untold
returns-clause-untold c is =
    let line = is.told.all [] (record { of_actions = tt; run = refl; shown = tt }) nothing is_nothing in
    not_empty is.fact is.lines line.0 line.1 is.is

pub returns-clause-earlier : goal.returns-clause-earlier
returns-clause-earlier c is = not_answered_so is.some is.run.of_actions is.run.shown

-- no difference is told of a step of which nothing was seen
not_unseen : (observed : List (Action × Seen)) (here : Action × Seen) (text : List ℕ)
    → observed ≡ (Ask event.Poll, nothing_seen) ∷ [] → slice_get observed 0 ≡ Some here
    → IsDifference smallest_caps 9 (take 0 observed) here 0 text → ⊥
not_unseen observed here text read at differs =
    let first : slice_get observed 0 ≡ Some (Ask event.Poll, nothing_seen) = ap (λ l. slice_get l 0) read in
    let same : (Ask event.Poll, nothing_seen) ≡ here = same_Some (Ask event.Poll, nothing_seen) here (sym first ∙ at) in
    differs.none (nothing ∷ []) (subst (λ (o : Action × Seen). IsShownRun smallest_caps 9 (o ∷ []) (nothing ∷ [])) same
    (poll_run nothing_seen refl))

pub returns-clause-other_step : goal.returns-clause-other_step
returns-clause-other_step c is =
    not_unseen is.observed is.here _ (one_read (Ask event.Poll, nothing_seen) is.observed is.read) is.at is.differs

pub returns-clause-unread_behind : goal.returns-clause-unread_behind
returns-clause-unread_behind c is = not_second _ [] is.observed is.read

-- ---- what conforms

pub returns-clause-unread : goal.returns-clause-unread
returns-clause-unread c is = not_first [] is.observed is.read

pub returns-clause-not_shown : goal.returns-clause-not_shown
returns-clause-not_shown c is =
    let read = one_read (Refuse no_command, answered (codes "nothing")) is.observed is.read in
    let run = subst (λ observed. IsShownRun smallest_caps 9 observed is.records) read is.run in
    not_answered_so is.records run.of_actions run.shown

-- one step of which nothing was seen is not counted otherwise
counted_so : (text : List ℕ) → bytes_eq text (conforms_text 1 0) ≡ false
    → ¬ IsConforming smallest_caps 9 (object_of poll_step ∷ []) text
unfolding digits
counted_so text other is =
    let read = one_read (Ask event.Poll, nothing_seen) is.observed is.read in
    let told = subst (λ o. text ≡ conforms_text (length o) (seen_count o)) read is.told in
    let never : false ≡ true = sym other ∙ ap (λ t. bytes_eq t (conforms_text 1 0)) told in
    absurd cc

pub returns-clause-not_counted : goal.returns-clause-not_counted
unfolding digits
returns-clause-not_counted c = counted_so (conforms_text 0 0) refl

pub returns-clause-counted_as_seen : goal.returns-clause-counted_as_seen
unfolding digits
returns-clause-counted_as_seen c = counted_so (conforms_text 1 1) refl

pub returns-clause-counted : goal.returns-clause-counted
unfolding digits
returns-clause-counted c = record {
  observed = (Ask event.Poll, nothing_seen) ∷ [];
  read = refl;
  records = nothing ∷ [];
  run = poll_run nothing_seen refl;
  told = refl;
}
