use Rattle.dsa_conform.proofs.rows.every_difference.Goals as goal
use Rattle.dsa_book.specs.declared.event.Event.TheVariants as event
use Rattle.std.specs.Fmt.{digits}
use Rattle.std.proofs.Common.{◌≡◌, ℕ, List, [], ◌∷◌, Some, refl, subst, codes}
use Rattle.std.proofs.lemmas.Option.{same_Some}
use Rattle.dsa_scenario.specs.{declared.actions.Action.{Action, TheVariants.{Ask}}, Worked.{smallest_caps}}
use Rattle.dsa_conform.specs.Run.{IsDifference, IsShownRun}
use Rattle.dsa_conform.specs.{Seen.{Seen, nothing_seen}, Worked.{answered, polled_with}}
use Rattle.dsa_conform.proofs.RowRuns.{nothing, poll_differs}

-- a poll of which nothing was seen is a run
poll_run : IsShownRun smallest_caps 9 (polled_with nothing_seen) (nothing ∷ [])
poll_run = record { of_actions = (refl, tt); run = refl; shown = (refl, tt) }

pub returns-clause-told : goal.returns-clause-told
unfolding digits
returns-clause-told c = record {
  observed = polled_with (answered (codes "active"));
  read = refl;
  first = codes "step 0: poll\nseen: active\nagainst: no command is active\nallowed: nothing: no command is active\n";
  more = [];
  differ = (
    record { here = (Ask event.Poll, answered (codes "active")); at = refl; differs = poll_differs },
    (nothing ∷ [], poll_run),
  );
  is = refl;
}

pub returns-clause-none : goal.returns-clause-none
returns-clause-none c h = poll_differs.none h.0 h.1

-- a poll that was answered with nothing does not differ
not_differing : (here : Action × Seen) (text : List ℕ)
    → Some (Ask event.Poll, answered (codes "nothing")) ≡ Some here
    → ¬ IsDifference smallest_caps 9 [] here 0 text
unfolding digits
not_differing here text at h =
    let same = same_Some (Ask event.Poll, answered (codes "nothing")) here at in
    h.none (nothing ∷ [])
    (subst (λ (o : Action × Seen). IsShownRun smallest_caps 9 (o ∷ []) (nothing ∷ [])) same
    (record { of_actions = (refl, tt); run = refl; shown = (refl, tt) }))

pub returns-clause-shown : goal.returns-clause-shown
returns-clause-shown c text h = not_differing h.0.here text h.0.at h.0.differs

pub returns-clause-full : goal.returns-clause-full
unfolding digits
returns-clause-full c = record {
  observed = polled_with nothing_seen;
  read = refl;
  records = nothing ∷ [];
  run = poll_run;
  told = refl;
}

pub returns-clause-other_fault : goal.returns-clause-other_fault
returns-clause-other_fault c h = h

pub returns-clause-first : goal.returns-clause-first
returns-clause-first c caps text h = h
