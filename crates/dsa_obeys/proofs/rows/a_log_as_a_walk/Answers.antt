use Rattle.dsa_obeys.proofs.rows.a_log_as_a_walk.Goals as goal
use Rattle.std.proofs.Common.{[], ◌∷◌, refl}
use Rattle.dsa_keys.specs.Labels.{with_label}
use Rattle.dsa_parties.specs.Worked.{all_at, place_at}
use Rattle.dsa_obeys.specs.Worked.{drain_line, moves_of_short_log, state_before_log}

pub returns-clause-walk : goal.returns-clause-walk
returns-clause-walk c memory = record {
  moves = moves_of_short_log;
  last = record {
    places = all_at (place_at 0 0) (place_at 4 1) 0 3;
    labels = with_label (λ name. 9) 0 4;
    state = state_before_log;
  };
  leads = refl;
  lines = refl;
  state = refl;
}

pub returns-clause-run : goal.returns-clause-run
returns-clause-run c memory = record {
  log = drain_line ∷ [];
  lines = refl;
  holds = refl;
  runs = refl;
  state = refl;
}
