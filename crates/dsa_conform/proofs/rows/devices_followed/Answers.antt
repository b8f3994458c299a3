use Rattle.dsa_conform.proofs.rows.devices_followed.Goals as goal
use Rattle.std.proofs.Common.{◌≡◌, ℕ, List, [], ◌∷◌, ◌++◌, arith, inl, refl, ap, length, lit≤, subst}
use Rattle.std.specs.Prelude.{take}
use Rattle.dsa_book.specs.declared.event.Event.TheVariants.{Poll}
use Rattle.dsa_store.specs.declared.entry.Entry.{Entry}
use Rattle.dsa_scenario.specs.{declared.{actions.Action.TheVariants.{Ask}, run.Record.{Record}}, Steps.{standing}}
use Rattle.dsa_scenario.specs.Worked.{smallest_caps}
use Rattle.dsa_device.specs.Running.{Running, running_at_first}
use Rattle.dsa_conform.specs.{declared.way.Way.{Way}, Run.{IsFollowedTo, IsShownRun}}
use Rattle.dsa_conform.specs.{Ways.{AreDevicesAlike, IsAmong, RunFrom}}
use Rattle.dsa_conform.specs.Worked.{smallest_device_at_first, way_at_first, after_a_take, caps_of_three_queues}
use Rattle.dsa_conform.specs.Seen.{nothing_seen}
use Rattle.dsa_conform.specs.Worked.{records_of_two_queues, observed_of_two_queues, from_second}
use Rattle.dsa_conform.proofs.{Objects.{not_first}, RowWays.{to_one, itself, not_one}, Runs.{run_of}}

pub returns-clause-not_followed : goal.returns-clause-not_followed
returns-clause-not_followed c a are = not_one a (are.each a (inl refl))

pub returns-clause-none : goal.returns-clause-none
returns-clause-none c are = are.some.1

-- how many entries wait in the first queue
abbrev waiting : List (List Entry) → ℕ
waiting [] = 0
waiting (queue ∷ others) = length queue

-- an entry waits there where the engine took from the second, and none where it took from the first
not_missed : (way : Way) → way.device ≡ after_a_take
    → IsAmong (standing caps_of_three_queues 9 (records_of_two_queues ++ from_second ∷ [])) (way ∷ []) → ⊥
not_missed way is among =
    to_one (λ (other : Way).
    AreDevicesAlike (standing caps_of_three_queues 9 (records_of_two_queues ++ from_second ∷ [])) other.device → ⊥) way
    (λ alike. one_waits (subst (λ d. AreDevicesAlike
    (standing caps_of_three_queues 9 (records_of_two_queues ++ from_second ∷ [])) d) is alike))
    among.0 among.1 among.2
  where
    one_waits : AreDevicesAlike (standing caps_of_three_queues 9 (records_of_two_queues ++ from_second ∷ []))
        after_a_take
        → ⊥
    one_waits alike =
        let none : 1 ≡ 0 = ap waiting alike.states.entries in
        absurd (omega (arith, none))

-- the run where it took from the second
second_run : IsShownRun caps_of_three_queues 9 (take 9 observed_of_two_queues)
    (records_of_two_queues ++ from_second ∷ [])
second_run = record {
  of_actions = (refl, (refl, (refl, (refl, (refl, (refl, (refl, (refl, (refl, tt)))))))));
  run = refl;
  shown = (refl, (refl, (refl, (refl, (refl, (refl, (refl, (refl, (refl, tt)))))))));
}

pub returns-clause-missed : goal.returns-clause-missed
returns-clause-missed c way is are =
    let run = run_of caps_of_three_queues 9 (take 9 observed_of_two_queues) (records_of_two_queues ++ from_second ∷ [])
    (record { caps = refl; bounded = lit≤ tt; within = omega arith; legal = refl; replayed = refl }) second_run in
    not_missed way is (are.all (records_of_two_queues ++ from_second ∷ [])
    (standing caps_of_three_queues 9 (records_of_two_queues ++ from_second ∷ [])) run)

pub returns-clause-first : goal.returns-clause-first
returns-clause-first c t h = record {
  each = to_one (λ (way : Way). IsFollowedTo smallest_caps 9 [] 0 way.device way.tickets.items) (way_at_first 9 t) h;
  all = all;
  some = (way_at_first 9 t, inl refl);
}
  where
    all : (records : List Record) (after : Running) → RunFrom [] (running_at_first smallest_caps 9) [] records after
        → IsAmong after (way_at_first 9 t ∷ [])
    all [] after run = (
      way_at_first 9 t,
      inl refl,
      subst (λ d. AreDevicesAlike d smallest_device_at_first) run
          (itself smallest_device_at_first),
    )
    all (r ∷ rs) after run = absurd run

pub returns-clause-elsewhere : goal.returns-clause-elsewhere
returns-clause-elsewhere c t are = omega (arith, (are.each (way_at_first 8 t) (inl refl)).run.same_capacity)

pub returns-clause-second : goal.returns-clause-second
returns-clause-second c a are = are

pub returns-clause-unread : goal.returns-clause-unread
returns-clause-unread c a observed read are = absurd (not_first [] observed read.read)

pub returns-clause-not_before : goal.returns-clause-not_before
returns-clause-not_before c observed read are = absurd are.some.1

pub returns-clause-read : goal.returns-clause-read
returns-clause-read c = record { read = refl; more = refl; named = (tt, tt); is_named = tt }

pub returns-clause-not_read : goal.returns-clause-not_read
returns-clause-not_read c is = not_first [] ((Ask Poll, nothing_seen) ∷ []) is.read

pub returns-clause-past_the_end : goal.returns-clause-past_the_end
returns-clause-past_the_end c is = omega (arith, ap length is.more)

pub returns-clause-by_ticket : goal.returns-clause-by_ticket
returns-clause-by_ticket c steps is = is.is_named

pub returns-clause-before_by_ticket : goal.returns-clause-before_by_ticket
returns-clause-before_by_ticket c steps is = is.named.0
