use Rattle.dsa_explore.proofs.schedules.to_worlds.Goals as goal
use Rattle.std.proofs.Common.{◌≡◌, ◌∙◌, ℕ, List, [], ◌∷◌, Some, length, refl, sym, ap, arith}
use Rattle.std.specs.Prelude.{unwrap_or}
use Rattle.std.specs.declared.alloc.Global.{Global}
use Rattle.dsa_book.specs.declared.answer.{Reply.TheVariants.{Poll}, PollAnswer.TheVariants.{Nothing}}
use Rattle.dsa_keys.specs.Parties.{Made, World, world_after, world_after_all}
use Rattle.dsa_parties.specs.declared.places.Move.{Move, TheVariants.{Administrator}}
use Rattle.dsa_parties.specs.{Standing.{Standing}, Offers.{parties_of}}
use Rattle.dsa_explore.specs.{WorkedSearch.{uneven_caps}, WorkedSetup.{opened_steps}}
use Rattle.dsa_explore.specs.Schedules.{schedule_events}
use Rattle.dsa_explore.specs.WorkedSchedules.{polled, polling_script, polling_world}
use Rattle.dsa_explore.proofs.Scheduled.{schedule-to-length}

-- the move of the administrator, and where he stands after it
abbrev poll : Made Move
poll = record { move = Administrator 0; reply = Poll Nothing }

abbrev after : Global → World Standing
after memory =
    unwrap_or (world_after (parties_of (polling_script memory)) (polling_world memory) poll.move poll.reply) (polling_world memory)

pub returns-clause-set_up : goal.returns-clause-set_up
returns-clause-set_up c = λ memory. record {
  allowed = refl;
  begun = opened_steps;
  more = [];
  parts = refl;
  first = polling_world memory;
  set_up = record { events = refl; led = refl; places = refl; no_names = refl };
  moves = [];
  count_is = refl;
  leads = refl;
  made = refl;
}

pub returns-clause-through : goal.returns-clause-through
returns-clause-through c = λ memory. (
  after memory,
  (
    record {
      allowed = refl;
      begun = opened_steps;
      more = polled ∷ [];
      parts = refl;
      first = polling_world memory;
      set_up = record { events = refl; led = refl; places = refl; no_names = refl };
      moves = poll ∷ [];
      count_is = refl;
      leads = refl;
      made = refl;
    },
    refl,
  ),
)

pub returns-clause-not_yet : goal.returns-clause-not_yet
returns-clause-not_yet c = λ memory world s through. begins memory world s.first s.moves s.count_is s.leads
    (ap (λ (p : Standing). p.administrators) s.set_up.places) through
  where
    begins : (memory : Global) (world first : World Standing) (moves : List (Made Move)) → length moves ≡ 0
        → world_after_all (parties_of (polling_script memory)) first moves ≡ Some world
        → first.places.administrators ≡ 0 ∷ [] → world.places.administrators ≡ 1 ∷ [] → ⊥
    begins memory world first [] count leads begun through =
        let same : first ≡ world = ap (λ z. unwrap_or z first) leads in
        let clash : 0 ∷ [] ≡ 1 ∷ [] =
        sym begun ∙ ap (λ (w : World Standing). w.places.administrators) same ∙ through in
        absurd cc
    begins memory world first (x ∷ xs) count leads begun through = omega (arith, count)

pub returns-clause-too_long : goal.returns-clause-too_long
returns-clause-too_long c = λ memory world s.
    omega (arith, schedule-to-length uneven_caps (polling_script memory) (schedule_events opened_steps) 0 1 world _ s)

pub returns-clause-first_left_out : goal.returns-clause-first_left_out
returns-clause-first_left_out c = λ memory world s.
    omega (arith, schedule-to-length uneven_caps (polling_script memory) (schedule_events opened_steps) 0 1 world _ s)
