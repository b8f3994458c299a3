-- What is wrong with some lines that are no JSON.
use Rattle.dsa_check.specs.declared.syntax.Wanted.TheVariants as wanted
use Rattle.std.proofs.Common.{◌≡◌, ℕ, zero, suc, List, [], ◌∷◌, IsUtf8, take, codes, refl}
use Rattle.std.specs.{Prelude.{Some}, Str.{chars, is_utf8, IsValidUpTo}}
use Rattle.std.proofs.lemmas.{Bool.{false≢true}, Str.{is_utf8-from_IsUtf8}}
use lib.Utf8.{encode}
use Rattle.serde_json.proofs.OnLiterals.{serde_json_on_literals}
use Rattle.dsa_scenario.specs.Worked.{digits_on_literals}
use Rattle.dsa_check.specs.declared.syntax.{Piece.TheVariants.{End}, Syntax.TheVariants.{Unwanted}}
use Rattle.dsa_check.specs.declared.finding.Reason.TheVariants.{Syntax}
use Rattle.dsa_check.specs.OneLine.{IsFlawText}
use Rattle.dsa_check.proofs.RowTexts.{are_json}

-- an object that is open
pub open_flaw : IsFlawText (codes "{") (codes "column 2: the end is here, a key in double quotes or } is wanted")
unfolding serde_json_on_literals digits_on_literals
open_flaw = record {
  at = 1;
  reason = Some (Syntax (Unwanted End wanted.FirstKey));
  wrong = (
    (codes "}", are_json _ _ (codes "{}", (refl, refl)) refl),
    (refl, (codes "}", are_json _ _ (codes "{\"\":0}", (refl, refl)) refl), tt),
  );
  of_utf8 = λ no. absurd (no (codes "{", (refl, refl)));
  told = refl;
}

-- no byte at all
pub empty_flaw : IsFlawText [] (codes "column 1: the end is here, an object is wanted")
unfolding serde_json_on_literals digits_on_literals
empty_flaw = record {
  at = 0;
  reason = Some (Syntax (Unwanted End wanted.Document));
  wrong = (
    (codes "0", are_json _ _ (codes "0", (refl, refl)) refl),
    (refl, ([], are_json _ _ (codes "\"\"", (refl, refl)) refl), tt),
  );
  of_utf8 = λ no. absurd (no ([], (refl, refl)));
  told = refl;
}

-- a byte that is no UTF-8
no_utf8 : IsUtf8 (255 ∷ []) → ⊥
unfolding is_utf8 chars encode
no_utf8 utf8 = false≢true (is_utf8-from_IsUtf8 (255 ∷ []) utf8)

-- such a byte is told at its place
first_byte : (at : ℕ) → IsValidUpTo (255 ∷ []) at → at ≡ 0
first_byte zero is = refl
first_byte (suc zero) is = absurd (no_utf8 is.front)
first_byte (suc (suc at)) is = absurd (no_utf8 is.front)

pub byte_flaw : (text : List ℕ) → IsFlawText (255 ∷ []) text → text ≡ codes "column 1: the bytes are no UTF-8"
unfolding digits_on_literals
byte_flaw text is =
    let told = is.of_utf8 no_utf8 in
    let first = first_byte is.at (rw told at is.wrong) in
    rw (told, first) at is.told
