use Rattle.dsa_scenario.proofs.rows.steps_taken.Goals as goal
use Rattle.std.proofs.Common.{◌≡◌, ℕ, zero, suc, List, [], ◌∷◌, Some, ap, arith, length, length-append, lit≤, map, refl, take}
use Rattle.dsa_book.specs.declared.event.Event.TheVariants.{Poll}
use Rattle.dsa_device.specs.Running.{IsReplay, running_at_first}
use Rattle.dsa_scenario.specs.declared.{actions.Action.{Action, TheVariants.{Ask}}, run.Record.{Record}}
use Rattle.dsa_scenario.specs.{Actions.{action_of}, Run.{AreOf}}
use Rattle.dsa_scenario.specs.Steps.{standing, visits}
use Rattle.dsa_scenario.specs.Worked.{polled, smallest_caps, two_polls, whole}
use Rattle.dsa_scenario.proofs.Records.{goes_by}

pub returns-clause-rest : goal.returns-clause-rest
returns-clause-rest c = (take 1 two_polls, refl, (visits smallest_caps 9 polled polled, refl, refl))

pub returns-clause-more_left : goal.returns-clause-more_left
returns-clause-more_left c is = omega (arith, ap length is.2.1, is.1, is.2.2, length-append is.0 is.2.0)

pub returns-clause-first : goal.returns-clause-first
returns-clause-first c = (take 1 two_polls, visits smallest_caps 9 polled polled, refl, refl)

pub returns-clause-too_many : goal.returns-clause-too_many
returns-clause-too_many c is = omega (arith, ap length is.2, is.3, length-append is.0 is.1)

pub returns-clause-first_line : goal.returns-clause-first_line
returns-clause-first_line c = (1, refl)

pub returns-clause-second_line : goal.returns-clause-second_line
returns-clause-second_line c (zero, is) = absurd cc
returns-clause-second_line c (suc count, is) = absurd cc

replay : IsReplay (standing smallest_caps 9 polled)
replay = record { caps = refl; bounded = lit≤ tt; within = lit≤ tt; legal = refl; replayed = refl }

pub returns-clause-walked : goal.returns-clause-walked
returns-clause-walked c = record {
  count = 1;
  actions = Ask Poll ∷ [];
  now = standing smallest_caps 9 polled;
  tickets = [];
  asked = refl;
  walk = record {
    records = polled;
    of_actions = (refl, tt);
    count = refl;
    run = (goes_by (running_at_first smallest_caps 9) _ polled refl (refl, refl, refl, refl) refl replay).run;
    room = refl;
    not_anew = refl;
    replay = replay;
    table = λ name. refl;
    in_turn = refl;
    made = refl;
  };
}

-- without a step object no step is made
none_walked : (count : ℕ) (actions : List Action) (records : List Record)
    → map action_of (take count (whole 1 ∷ [])) ≡ map Some actions → AreOf [] actions records
    → length (visits smallest_caps 9 [] records) ≡ 1 → ⊥
none_walked zero [] [] asked are one = absurd cc
none_walked zero [] (entry ∷ records) asked are one = are
none_walked zero (action ∷ actions) records asked are one = absurd cc
none_walked (suc count) [] records asked are one = absurd cc
none_walked (suc count) (action ∷ actions) records asked are one = absurd cc

pub returns-clause-walked_too_far : goal.returns-clause-walked_too_far
returns-clause-walked_too_far c is =
    none_walked is.count is.actions is.walk.records is.asked is.walk.of_actions is.walk.made
