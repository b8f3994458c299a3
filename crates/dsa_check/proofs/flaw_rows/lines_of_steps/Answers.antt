use Rattle.dsa_check.proofs.flaw_rows.lines_of_steps.Goals as goal
use Rattle.std.proofs.Common.{codes, refl, arith, lit≤}
use Rattle.serde_json.proofs.OnLiterals.{serde_json_on_literals}
use Rattle.dsa_scenario.specs.Worked.{whole}
use Rattle.dsa_check.specs.Places.{IsFoundBetween}

found : IsFoundBetween (codes "\n1") (whole 1) 0 1 2
unfolding serde_json_on_literals
found = record {
  ahead = lit≤ tt;
  order = lit≤ tt;
  inside = lit≤ tt;
  whole = refl;
  text = record { json = record { utf8 = (codes "1", (refl, refl)); value = refl }; first = omega arith };
}

pub returns : goal.returns
unfolding serde_json_on_literals
returns c = record {
  found = record { ahead = lit≤ tt; order = lit≤ tt; inside = lit≤ tt; whole = refl; text = found.text };
  behind = λ is. omega (arith, is.ahead);
  backwards = λ is. omega (arith, is.order);
  outside = λ is. omega (arith, is.inside);
  float = λ d float is. let whole = is.whole in absurd cc;
  other_value = λ is. let value = is.text.json.value in absurd cc;
  nowhere = λ line. tt;
  told = λ is. refl;
  untold = λ told. let line = told found in absurd cc;
  other_line = λ told. let line = told found in absurd cc;
  unknown = refl;
  known = λ extents first second are. rw are refl;
}
