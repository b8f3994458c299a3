use Rattle.dsa_check.proofs.flaw_rows.wrong_texts.Goals as goal
use Rattle.std.proofs.Common.{◌≡◌, ◌<◌, ◌≤◌, ℕ, zero, suc, [], ◌∷◌, IsUtf8, take, codes, refl, arith, lit≤}
use Rattle.std.proofs.lemmas.{Bool.{false≢true}, Str.{is_utf8-from_IsUtf8}}
use Rattle.std.specs.Str.{chars, is_utf8, IsValidUpTo}
use lib.Utf8.{encode}
use Rattle.serde_json.proofs.OnLiterals.{serde_json_on_literals}
use Rattle.dsa_check.specs.Places.{column_after}
use Rattle.dsa_check.proofs.RowTexts.{are_json, unread, one_line}

-- a byte that no character has
no_utf8 : IsUtf8 (93 ∷ 255 ∷ []) → ⊥
unfolding is_utf8 chars encode
no_utf8 utf8 = false≢true (is_utf8-from_IsUtf8 (93 ∷ 255 ∷ []) utf8)

alone_no_utf8 : IsUtf8 (255 ∷ []) → ⊥
unfolding is_utf8 chars encode
alone_no_utf8 utf8 = false≢true (is_utf8-from_IsUtf8 (255 ∷ []) utf8)

longer : (n : ℕ) → 1 < n → IsUtf8 (take n (93 ∷ 255 ∷ [])) → ⊥
longer zero h utf8 = omega (arith, h)
longer (suc zero) h utf8 = omega (arith, h)
longer (suc (suc zero)) h utf8 = no_utf8 utf8
longer (suc (suc (suc n))) h utf8 = no_utf8 utf8

one_valid : IsValidUpTo (93 ∷ 255 ∷ []) 1
unfolding serde_json_on_literals
one_valid = record { short = omega arith; front = (codes "]", (refl, refl)); longest = longer }

-- a text of one byte has two columns
two_columns : (at : ℕ) → column_after (take at (codes "1")) ≤ 2
two_columns zero = lit≤ tt
two_columns (suc zero) = lit≤ tt
two_columns (suc (suc at)) = lit≤ tt

pub returns : goal.returns
unfolding serde_json_on_literals
returns c = record {
  utf8 = one_valid;
  earlier = λ is. is.longest 1 (omega arith) (codes "]", (refl, refl));
  all_of_utf8 = λ is. omega (arith, is.short);
  syntax = ((codes "]", are_json _ _ (codes "[]", (refl, refl)) refl), refl);
  no_front = λ is. unread _ refl is.0.1;
  other_syntax = λ is. false≢true is.1;
  other_reason = λ is. is;
  place = λ finding line column told.
      record { at = 1; line = line; column = column; reasons = rw told (one_valid, tt); few = rw told (lit≤ tt); of_utf8 = λ no. told };
  twice = λ finding told is. let few = rw told at is.few in omega (arith, few);
  untold = λ finding none is. let told = is.of_utf8 alone_no_utf8 in absurd cc;
  other_line = λ finding line is. let here = is.line in let one = one_line is.at in absurd cc;
  other_column = λ finding column is.
      let here = is.column in
      let third : column_after (take is.at (codes "1")) ≡ 3 = cc in
      omega (arith, third, two_columns is.at);
}
