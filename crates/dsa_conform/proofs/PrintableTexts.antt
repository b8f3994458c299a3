-- A text that was seen is printable, as it is printed.
use Rattle.std.proofs.Common.{◌≡◌, ◌/◌, ◌%◌, ◌⊎◌, inl, inr, ℕ, List, [], ◌∷◌, Bool, true, false, cond}
use Rattle.std.proofs.Common.{nat_le, not, ◌||◌, ◌==◌, refl, sym, subst, arith, flat_map, codes}
use Rattle.std.proofs.lemmas.Bool.{and_parts, cases_eq, leb-true}
use Rattle.std.specs.{List.{list_all}, Str.{chars}, Char.Escape.{encode_utf16}}
use Rattle.json.specs.Print.{escape_byte}
use Rattle.json.proofs.Printed.Strings.{escape_byte_plain}
use Rattle.dsa_conform.specs.Quoted.{is_printable, is_unescaped, unit_text, char_text, quoted_text, seen_text}
use Rattle.dsa_conform.proofs.Printable.{Shown, joined, listed, digit, both}

unit_shown : (u : ℕ) → Shown (unit_text u)
unit_shown u =
    both _ _ (digit (u / 4096 % 16) (omega arith))
    (both _ _ (digit (u / 256 % 16) (omega arith))
    (both _ _ (digit (u / 16 % 16) (omega arith)) (both _ _ (digit (u / 1 % 16) (omega arith)) refl)))

escape_shown : (c : ℕ) → is_printable c ≡ true → Shown (escape_byte c)
unfolding escape_byte
escape_shown c p = go (cases_eq c 34) (cases_eq c 92)
  where
    go : (c ≡ 34) ⊎ (c ≡ 34 → ⊥) → (c ≡ 92) ⊎ (c ≡ 92 → ⊥) → Shown (escape_byte c)
    go (inl e) which = subst (λ x. Shown (escape_byte x)) (sym e) refl
    go (inr not_quote) (inl e) = subst (λ x. Shown (escape_byte x)) (sym e) refl
    go (inr not_quote) (inr not_slash) =
        subst Shown (sym (escape_byte_plain c not_quote not_slash
        (leb-true 32 c (and_parts (nat_le 32 c) (nat_le c 126) p).0))) (both _ _ p refl)

char_shown : (c : ℕ) → Shown (char_text c)
char_shown c = go (is_printable c) refl
  where
    go : (b : Bool) → is_printable c ≡ b → Shown (cond b (escape_byte c) (flat_map unit_text (encode_utf16 c)))
    go true p = escape_shown c p
    go false p = listed unit_text (encode_utf16 c) unit_shown

plain_shown : (text : List ℕ) → list_all is_unescaped text ≡ true → Shown text
plain_shown [] p = refl
plain_shown (x ∷ text) p =
    let parts = and_parts (is_unescaped x) (list_all is_unescaped text) p in
    both _ _ (and_parts (is_printable x) (not (x == 34 || x == 92)) parts.0).0 (plain_shown text parts.1)

pub text_shown : (text : List ℕ) → Shown (seen_text text)
text_shown text = go (list_all is_unescaped text) refl
  where
    go : (b : Bool) → list_all is_unescaped text ≡ b → Shown (cond b text (quoted_text text))
    go true p = plain_shown text p
    go false p = joined (flat_map char_text (chars text)) (codes "\"") (listed char_text (chars text) char_shown) refl
