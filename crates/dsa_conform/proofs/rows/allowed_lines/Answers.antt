use Rattle.dsa_conform.proofs.rows.allowed_lines.Goals as goal
use Rattle.dsa_book.specs.declared.answer.Reply.TheVariants as reply
use Rattle.dsa_book.specs.declared.answer.PollAnswer.TheVariants as poll
use Rattle.dsa_book.specs.declared.event.Event.TheVariants as event
use Rattle.std.proofs.Common.{◌≡◌, ℕ, true, false, List, [], ◌∷◌, Ok, ap, bytes_eq, codes, inl, inr, lit≤, refl}
use Rattle.std.specs.{Prelude.{take}, Fmt.{digits}}
use Rattle.dsa_scenario.specs.Worked.{no_command}
use Rattle.dsa_scenario.specs.declared.{actions.Action.TheVariants.{Ask, Refuse}}
use Rattle.dsa_scenario.specs.declared.{run.Record.{Record, TheVariants.{Refused}}}
use Rattle.dsa_scenario.specs.{Run.{event_of, AreOf}, Steps.{standing}, Worked.{smallest_caps, stepped}}
use Rattle.dsa_explain_lines.specs.Parts.{part_of}
use Rattle.dsa_conform.specs.{Allowed.{IsAllowed}, Lines.{allowed_line}, Run.{IsShownRun}}
use Rattle.dsa_conform.specs.Worked.{caps_of_three_queues, from_first, from_second, observed_of_two_queues}
use Rattle.dsa_conform.specs.Seen.{nothing_seen}
use Rattle.dsa_conform.specs.Worked.{records_of_two_queues, smallest_device_at_first}
use Rattle.dsa_conform.proofs.{RowRuns.{all_lines, is_nothing, nothing, not_answered_so, only_nothing}}
use Rattle.dsa_conform.proofs.{RowWays.{to_one}}
use Rattle.dsa_conform.proofs.{RowRuns.{smallest_replay, word_leads}, RowTakes.{second_allowed}}

pub returns-clause-line : goal.returns-clause-line
unfolding digits
returns-clause-line c = record {
  records = Refused no_command ∷ [];
  run = record { of_actions = (refl, tt); run = refl; shown = (refl, tt) };
  allowed = record { answers = refl; after = _; leads = refl };
  told = refl;
}

pub returns-clause-no_run : goal.returns-clause-no_run
returns-clause-no_run c is = not_answered_so is.records is.run.of_actions is.run.shown

-- no step leads nowhere, and no other answer is allowed there
not_active : (records : List Record) → AreOf [] [] records
    → IsAllowed (standing smallest_caps 9 records) (event_of records (Ask event.Poll))
    (stepped event.Poll (reply.Poll poll.Active)) → ⊥
not_active [] of_none is =
    let none = is.leads in
    absurd cc
not_active (entry ∷ entries) of_none is = of_none

pub returns-clause-not_allowed : goal.returns-clause-not_allowed
returns-clause-not_allowed c is = not_active is.records is.run.of_actions is.allowed

not_without : (records : List Record) → AreOf [] [] records → codes "allowed: nothing\n"
    ≡ allowed_line (part_of (standing smallest_caps 9 records) (event_of records (Ask event.Poll))) nothing → ⊥
unfolding digits
not_without [] of_none is =
    let none : true ≡ false = ap (bytes_eq (codes "allowed: nothing\n")) is in
    absurd cc
not_without (entry ∷ entries) of_none is = of_none

pub returns-clause-no_reason : goal.returns-clause-no_reason
returns-clause-no_reason c is = not_without is.records is.run.of_actions is.told

pub returns-clause-all : goal.returns-clause-all
unfolding digits
returns-clause-all c =
    all_lines smallest_caps 9 ((Refuse no_command, nothing_seen) ∷ []) (Ask event.Poll) smallest_device_at_first
    (Ok event.Poll) nothing (Refused no_command ∷ []) (smallest_replay 9 (lit≤ tt))
    (record { of_actions = (refl, tt); run = refl; shown = (refl, tt) }) word_leads is_nothing only_nothing

pub returns-clause-another : goal.returns-clause-another
returns-clause-another c are =
    let line = are.each _ (inr (inl refl)) in
    not_active line.records line.run.of_actions line.allowed

pub returns-clause-none : goal.returns-clause-none
returns-clause-none c are = (are.all [] (record { of_actions = tt; run = refl; shown = tt }) nothing is_nothing).1

-- the run to where an entry waits in each of two queues
run_of_two : IsShownRun caps_of_three_queues 9 (take 8 observed_of_two_queues) records_of_two_queues
run_of_two = record {
  of_actions = (refl, (refl, (refl, (refl, (refl, (refl, (refl, (refl, tt))))))));
  run = refl;
  shown = (refl, (refl, (refl, (refl, (refl, (refl, (refl, (refl, tt))))))));
}

pub returns-clause-left_out : goal.returns-clause-left_out
unfolding digits
returns-clause-left_out c are =
    let line = are.all records_of_two_queues run_of_two from_second second_allowed in
    to_one
    (λ (l : Record × List ℕ). (reason : List ℕ) → l.1 ≡ allowed_line reason from_second → ⊥)
    (from_first, codes "allowed: taken 0 from 0\n")
    (λ reason is.
    let none : true ≡ false = ap (bytes_eq (codes "allowed: taken 0 from 0\n")) is in
    absurd cc)
    line.0 line.1 line.2.0 line.2.2

pub returns-clause-twice : goal.returns-clause-twice
returns-clause-twice c are = are.listed.once.0 _ (inl refl) refl
