-- How a character stands in JSON.
use Rattle.std.proofs.Common.{◌≡◌, ◌≤◌, ◌<◌, ◌⊎◌, inl, inr, ℕ, List, [], ◌∷◌, ◌++◌, true, refl, sym, subst, ap, ◌∙◌}
use Rattle.std.proofs.Common.{arith}
use Rattle.std.proofs.Common.{append_assoc}
use Rattle.std.specs.Char.{encode_utf8}
use Rattle.std.proofs.lemmas.{Str.{encode_ascii}, Bool.Decides.{nat_tests}}
use Rattle.json.proofs.Printed.Strings.{escape_byte_plain}
use Rattle.json.specs.Print.{escape_byte}
use Rattle.dsa_conform.specs.Quoted.{char_text, is_printable}

-- a quote and a backslash have a backslash before them
pub escaped_char : (c : ℕ) → (c ≡ 34) ⊎ (c ≡ 92) → char_text c ≡ encode_utf8 92 ++ encode_utf8 c
unfolding escape_byte encode_utf8
escaped_char c (inl e) = subst (λ x. char_text x ≡ encode_utf8 92 ++ encode_utf8 x) (sym e) refl
escaped_char c (inr e) = subst (λ x. char_text x ≡ encode_utf8 92 ++ encode_utf8 x) (sym e) refl

printable : (c : ℕ) → 32 ≤ c → c < 127 → is_printable c ≡ true
printable c low high = grind (arith, nat_tests)

-- any other character that is printable stands for itself
pub plain_char : (c : ℕ) → 32 ≤ c → c < 127 → ¬ (c ≡ 34) → ¬ (c ≡ 92) → char_text c ≡ encode_utf8 c
plain_char c low high quote backslash =
    rw (printable c low high, escape_byte_plain c quote backslash low, encode_ascii c (omega arith)) refl

-- a text between quotes
pub in_quotes : (old begun body text : List ℕ) → begun ≡ old ++ 34 ∷ [] → text ≡ begun ++ body
    → text ++ 34 ∷ [] ≡ old ++ 34 ∷ (body ++ 34 ∷ [])
in_quotes old begun body text first is =
    ap (λ l. l ++ 34 ∷ []) (is ∙ ap (λ l. l ++ body) first ∙ append_assoc old (34 ∷ []) body)
    ∙ append_assoc old (34 ∷ body) (34 ∷ [])
