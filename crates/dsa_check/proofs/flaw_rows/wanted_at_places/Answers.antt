use Rattle.dsa_check.proofs.flaw_rows.wanted_at_places.Goals as goal
use Rattle.std.proofs.Common.{◌≡◌, ℕ, zero, suc, [], ◌∷◌, codes, refl, arith}
use Rattle.std.specs.Prelude.{slice_get, Some}
use Rattle.serde_json.proofs.OnLiterals.{serde_json_on_literals}
use Rattle.dsa_check.proofs.RowTexts.{are_json, unread}

-- a text of one sign has no other
only : (first sign at : ℕ) → slice_get (first ∷ []) at ≡ Some sign → (at ≡ 0) × (first ≡ sign)
only first sign zero e = (refl, cc)
only first sign (suc at) e = absurd cc

pub returns : goal.returns
unfolding serde_json_on_literals
returns c = record {
  colon = (codes "}", are_json _ _ (codes "{\"\":0}", (refl, refl)) refl);
  no_colon = λ is. unread _ refl is.1;
  ended = are_json _ _ (codes "1", (refl, refl)) refl;
  not_ended = λ is. unread _ refl is;
  array = record { at = 2; there = refl; goes_on = are_json _ _ (codes "[1,0]", (refl, refl)) refl; line_there = refl; column_there = refl };
  no_array = λ is. omega (arith, (only 123 91 is.at is.there).1);
  object = record { at = 2; there = refl; goes_on = are_json _ _ (codes "{\"\":0,\"\":0}", (refl, refl)) refl; line_there = refl; column_there = refl };
  no_object = λ is. omega (arith, (only 91 123 is.at is.there).1);
  quote = record { at = 2; there = refl; goes_on = are_json _ _ (codes "\"\"", (refl, refl)) refl; line_there = refl; column_there = refl };
  no_quote = λ is. omega (arith, (only 91 34 is.at is.there).1);
  another = tt;
  other_line = λ is.
      let first = (only 91 91 is.at is.there).0 in
      let line : 2 ≡ 1 = rw first at is.line_there in
      absurd cc;
  other_column = λ is.
      let first = (only 91 91 is.at is.there).0 in
      let column : 2 ≡ 1 = rw first at is.column_there in
      absurd cc;
}
