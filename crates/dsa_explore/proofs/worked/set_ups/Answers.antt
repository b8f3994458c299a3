use Rattle.dsa_explore.proofs.worked.set_ups.Goals as goal
use Rattle.std.proofs.Common.{◌≡◌, ℕ, ◌<◌, ◌≤◌, true, false, List, [], ◌∷◌, map, Some, refl, ap, inl, inr, ⊎_elim, arith}
use Rattle.std.specs.Prelude.{unwrap_or}
use Rattle.dsa_book.specs.declared.event.{Step.{Step}}
use Rattle.dsa_book.specs.{Machine.{replay, stored_steps}, State.{State, opening}}
use Rattle.dsa_explore.specs.{Walked.{HasNoDevice, IsLedTo}, WorkedSearch.{uneven_caps}}
use Rattle.dsa_explore.specs.WorkedSetup.{entry_steps, opened_steps, state_after_set_up}

pub returns-clause-opened : goal.returns-clause-opened
returns-clause-opened c = record { steps = opened_steps; events_are = refl; allowed = refl; led = refl }

pub returns-clause-entry : goal.returns-clause-entry
returns-clause-entry c =
    let one : (state_after_set_up entry_steps).work.setup.next_name ≡ 1 = refl in
    record {
      state = state_after_set_up entry_steps;
      led = record { steps = entry_steps; events_are = refl; allowed = refl; led = refl };
      named = omega (arith, one);
    }

-- there is a device with room for so many steps
has-device : (capacity : ℕ) → capacity ≤ 1048576 → HasNoDevice uneven_caps capacity → ⊥
has-device capacity few h = ⊎_elim (λ e. let clash : true ≡ false = e in absurd cc)
    (λ long. let many : 1048576 < capacity = long in omega (arith, few, many)) h

-- no event leaves the device as it opens
nothing-led : (s : State) → IsLedTo uneven_caps [] s → 0 < s.work.setup.next_name → ⊥
nothing-led s l named = go l.steps l.events_are l.led
  where
    go : (steps : List Step) → map (λ (step : Step). step.event) steps ≡ []
        → replay uneven_caps (stored_steps steps) ≡ Some s → ⊥
    go [] e led =
        let none : 0 ≡ s.work.setup.next_name =
        ap (λ o. (unwrap_or o (opening uneven_caps)).work.setup.next_name) led in
        omega (arith, named, none)
    go (step ∷ steps) e led = absurd cc

pub returns-clause-no_events : goal.returns-clause-no_events
returns-clause-no_events c h = ⊎_elim (has-device 0 (omega arith)) (λ l. nothing-led l.state l.led l.named) h

pub returns-clause-no_engines : goal.returns-clause-no_engines
returns-clause-no_engines c = inl (inl refl)

pub returns-clause-most_steps : goal.returns-clause-most_steps
returns-clause-most_steps c h = has-device 1048576 (omega arith) h

pub returns-clause-too_many_steps : goal.returns-clause-too_many_steps
returns-clause-too_many_steps c = let many : 1048576 < 1048577 = omega arith in inr many
