use Rattle.dsa_check.proofs.rows.reasons_that_are_so.Goals as goal
use Rattle.std.proofs.Common.{refl}

pub returns : goal.returns
returns c = record {
  missing = λ key. refl;
  past = λ key. refl;
  odd = λ key. refl;
  letter = λ key. refl;
  digits = λ key. refl;
  bound = λ key. refl;
  no_digits = λ key. refl;
  item = refl;
}
