use Rattle.dsa_conform.proofs.rows.own_answers.Goals as goal
use Rattle.dsa_book.specs.declared.event.Event.TheVariants as event
use Rattle.std.specs.{Fmt.{digits}, Prelude.{slice_get}}
use Rattle.std.proofs.Common.{◌≡◌, false, List, [], ◌∷◌, Some, refl, sym, subst, codes}
use Rattle.std.proofs.lemmas.Option.{same_Some}
use Rattle.dsa_scenario.specs.declared.{actions.Action.{Action, TheVariants.{Ask}}, run.Record.{Record}}
use Rattle.dsa_scenario.specs.{Run.{AreOf, event_of}, Steps.{standing}, Worked.{smallest_caps}}
use Rattle.dsa_conform.specs.{Allowed.{IsAllowed}, Seen.{Seen, shows}, Worked.{answered, polled_with}}
use Rattle.dsa_conform.proofs.RowRuns.{nothing, is_nothing, only_nothing, poll_differs}

-- an answer that may come next, and does not show what was seen
abbrev IsNext : List Record → Action × Seen → Type 0
IsNext records here = (entry : Record)
    × IsAllowed (standing smallest_caps 9 records) (event_of records here.0) entry × (shows here.1 entry ≡ false)

pub returns-clause-all : goal.returns-clause-all
unfolding digits
returns-clause-all c = record {
  records = nothing ∷ [];
  run = record { of_actions = (refl, tt); run = refl; shown = (refl, tt) };
  next = λ here at. absurd cc;
}

pub returns-clause-none : goal.returns-clause-none
unfolding digits
returns-clause-none c = record {
  records = [];
  run = record { of_actions = tt; run = refl; shown = tt };
  next = λ here at.
      subst (IsNext []) (same_Some (Ask event.Poll, answered (codes "active")) here at) (nothing, is_nothing, refl);
}

-- a poll that was answered with nothing shows it
not_early : (records : List Record) → AreOf [] [] records
    → ((here : Action × Seen) → slice_get (polled_with (answered (codes "nothing"))) 0 ≡ Some here
    → IsNext records here)
    → ⊥
unfolding digits
not_early [] of next =
    let other = next (Ask event.Poll, answered (codes "nothing")) refl in
    let fails : shows (answered (codes "nothing")) nothing ≡ false =
    subst (λ r. shows (answered (codes "nothing")) r ≡ false) (sym (only_nothing other.0 other.1)) other.2 in
    absurd cc
not_early (r ∷ rs) of next = absurd of

pub returns-clause-too_early : goal.returns-clause-too_early
returns-clause-too_early c h = not_early h.records h.run.of_actions h.next

pub returns-clause-too_far : goal.returns-clause-too_far
returns-clause-too_far c h = poll_differs.none h.records h.run
