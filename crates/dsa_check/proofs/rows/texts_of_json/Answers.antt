use Rattle.dsa_check.proofs.rows.texts_of_json.Goals as goal
use Rattle.std.proofs.Common.{codes, refl, arith}
use Rattle.serde_json.proofs.OnLiterals.{serde_json_on_literals}
use Rattle.dsa_scenario.specs.Worked.{whole}
use Rattle.dsa_check.specs.Places.{AreTextOf}
use Rattle.dsa_check.proofs.RowTexts.{are_json, unread, one_line}

one : AreTextOf (whole 1) (codes "1")
unfolding serde_json_on_literals
one = record { json = record { utf8 = (codes "1", (refl, refl)); value = refl }; first = omega arith }

pub returns : goal.returns
unfolding serde_json_on_literals
returns c = record {
  text = one;
  after_a_blank = λ is. let first = is.first in omega (arith, first);
  other_value = λ is. let value = is.json.value in absurd cc;
  begun = (codes "]", are_json _ _ (codes "[]", (refl, refl)) refl);
  closed = λ is. unread _ refl is.1;
  deep = λ d deep. omega (arith, deep);
  too_deep = λ d deep is. omega (arith, deep, is);
  first_line = record { at = 0; end = 1; text = one; line_of_text = refl };
  no_second_line = λ d is. omega (arith, is.line_of_text, one_line is.at);
}
