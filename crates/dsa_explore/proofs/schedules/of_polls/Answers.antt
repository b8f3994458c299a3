use Rattle.dsa_explore.proofs.schedules.of_polls.Goals as goal
use Rattle.std.proofs.Common.{[], ◌∷◌, refl, inl, arith}
use Rattle.std.specs.Prelude.{unwrap_or}
use Rattle.std.specs.declared.alloc.Global.{Global}
use Rattle.dsa_book.specs.declared.answer.{Reply.TheVariants.{Poll}, PollAnswer.TheVariants.{Nothing}}
use Rattle.dsa_keys.specs.Parties.{Made, World, world_after}
use Rattle.dsa_parties.specs.declared.places.Move.{Move, TheVariants.{Administrator}}
use Rattle.dsa_parties.specs.{Standing.{Standing}, Offers.{parties_of}}
use Rattle.dsa_explore.specs.{WorkedSearch.{uneven_caps}, WorkedSetup.{opened_steps}}
use Rattle.dsa_explore.specs.Schedules.{schedule_events}
use Rattle.dsa_explore.specs.WorkedSchedules.{polled, polling_script, polling_world}
use Rattle.dsa_explore.proofs.Scheduled.{schedule-length}

-- the move of the administrator, and where he stands after it
abbrev poll : Made Move
poll = record { move = Administrator 0; reply = Poll Nothing }

abbrev after : Global → World Standing
after memory =
    unwrap_or (world_after (parties_of (polling_script memory)) (polling_world memory) poll.move poll.reply) (polling_world memory)

pub returns-clause-shown : goal.returns-clause-shown
returns-clause-shown c = λ memory. record {
  allowed = refl;
  begun = opened_steps;
  more = polled ∷ [];
  parts = refl;
  first = polling_world memory;
  set_up = record { events = refl; led = refl; places = refl; no_names = refl };
  comes = record {
    moves = [];
    before = polling_world memory;
    leads = refl;
    last = poll;
    after = after memory;
    ends = refl;
    tells = inl refl;
    count = refl;
  };
  made = refl;
}

pub returns-clause-too_long : goal.returns-clause-too_long
returns-clause-too_long c = λ memory s.
    omega (arith, schedule-length uneven_caps (polling_script memory) (schedule_events opened_steps) 0 1 _ _ s)

pub returns-clause-set_up_alone : goal.returns-clause-set_up_alone
returns-clause-set_up_alone c = λ memory s.
    omega (arith, schedule-length uneven_caps (polling_script memory) (schedule_events opened_steps) 0 1 _ _ s)

pub returns-clause-first_left_out : goal.returns-clause-first_left_out
returns-clause-first_left_out c = λ memory s.
    omega (arith, schedule-length uneven_caps (polling_script memory) (schedule_events opened_steps) 0 1 _ _ s)
