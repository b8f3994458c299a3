use Rattle.dsa_check.proofs.remark_rows.places_of_members.Goals as goal
use Rattle.std.proofs.Common.{◌≡◌, Bool, true, false, refl, arith}
use Rattle.std.specs.Prelude.{◌++◌, take, drop, codes, Some}
use Rattle.serde_json.{specs.{Data.{Data}, Find.{get}}, proofs.OnLiterals.{serde_json_on_literals}}
use Rattle.dsa_scenario.specs.Document.{IsJson}
use Rattle.dsa_check.specs.{Members.{other_text, other_value, IsValueAt}, Worked.{text_of_two, last_of_two}}

value_there : IsValueAt text_of_two last_of_two (codes "a") 12 13
unfolding serde_json_on_literals
value_there = record {
  whole = record { json = (_, record { utf8 = (codes "2", (refl, refl)); value = refl }); first = omega arith };
  is_null = false;
  old = λ same. absurd cc;
  object = _;
  changed = record { utf8 = (codes "{\"a\":1,\"a\": null}", (refl, refl)); value = refl };
  new = refl;
}

pub returns-clause-value : goal.returns-clause-value
returns-clause-value c = value_there

pub returns-clause-aimed : goal.returns-clause-aimed
returns-clause-aimed c = (13, value_there)

-- where the first value is another, the object stays the same
not_first : (is_null : Bool) (d : Data)
    → IsJson (take 5 text_of_two ++ other_text is_null ++ drop 6 text_of_two) d
    → get (codes "a") d ≡ Some (other_value is_null) → ⊥
unfolding serde_json_on_literals
not_first true d json new = let value = json.value in absurd cc
not_first false d json new = let value = json.value in absurd cc

pub returns-clause-first_value : goal.returns-clause-first_value
returns-clause-first_value c is = not_first is.is_null is.object is.changed is.new

pub returns-clause-blank : goal.returns-clause-blank
unfolding serde_json_on_literals
returns-clause-blank c is = let first = is.whole.first in omega (arith, first)

pub returns-clause-key : goal.returns-clause-key
unfolding serde_json_on_literals
returns-clause-key c = record {
  end = 10;
  quote = refl;
  written = record { utf8 = (codes "\"a\"", (refl, refl)); value = refl };
  value = 12;
  gap = refl;
  value_end = 13;
  counts = value_there;
}
