use Rattle.dsa_check.proofs.rows.places_in_texts.Goals as goal
use Rattle.std.proofs.Common.{arith, lit≤, refl}

pub returns : goal.returns
returns c = record {
  last = record { inside = lit≤ tt; line = refl; column = refl };
  later = record { inside = lit≤ tt; line = refl; column = refl };
  beyond = λ is. omega (arith, is.inside);
  line = λ is. omega (arith, is.line);
  column = λ is. omega (arith, is.column);
}
