use Rattle.dsa_explain_rows.proofs.devices.pasts_with_fates.Goals as goal
use Rattle.std.proofs.Common.{[], ◌∷◌, lit≤, refl}
use Rattle.dsa_worked.specs.Setup.{completed}
use Rattle.dsa_explain_rows.specs.Alike.{one_ended}

pub returns-clause-kept : goal.returns-clause-kept
returns-clause-kept c = record {
  past = one_ended;
  forgotten = [];
  caps = refl;
  bounded = lit≤ tt;
  limited = lit≤ tt;
  within = lit≤ tt;
  legal = refl;
  replayed = refl;
  named = lit≤ tt;
  no_past = λ never. absurd cc;
  no_forgotten = λ never. absurd cc;
  full_room = λ never. absurd cc;
}

pub returns-clause-forgotten : goal.returns-clause-forgotten
returns-clause-forgotten c = record {
  past = one_ended;
  forgotten = completed 0 0x01 ∷ [];
  caps = refl;
  bounded = lit≤ tt;
  limited = lit≤ tt;
  within = lit≤ tt;
  legal = refl;
  replayed = refl;
  named = lit≤ tt;
  no_past = λ never. absurd cc;
  no_forgotten = λ never. absurd cc;
  full_room = λ never. absurd cc;
}

pub returns-clause-last_names : goal.returns-clause-last_names
returns-clause-last_names c = record {
  past = [];
  forgotten = [];
  caps = refl;
  bounded = lit≤ tt;
  limited = lit≤ tt;
  within = lit≤ tt;
  legal = refl;
  replayed = refl;
  named = lit≤ tt;
  no_past = λ never. absurd cc;
  no_forgotten = λ never. absurd cc;
  full_room = λ never. absurd cc;
}
