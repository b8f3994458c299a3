-- A text in JSON is read back.
use Rattle.std.proofs.Common.{◌≡◌, ◌≤◌, ◌<◌, ◌+◌, ◌-◌, ◌/◌, ◌%◌, ◌⊎◌, inl, inr, ℕ, List, [], ◌∷◌, ◌++◌, Bool, true}
use Rattle.std.proofs.Common.{false, cond, ◌&&◌, nat_lt, nat_le, refl, sym, subst, ap, ◌∙◌, arith}
use Rattle.std.proofs.Common.{append_assoc, Option, Some, None, flat_map, ap₂, option_and_then}
use Rattle.std.specs.{Char.{encode_utf8, digit_value, digit_char, IsScalar}, Char.Escape.{hex_digit_at}}
use Rattle.std.specs.Str.{chars, IsUtf8, encode_utf8_all, all_scalars}
use Rattle.std.proofs.Math.Utf8.{scalar_cases}
use Rattle.std.proofs.lemmas.{Str.{encode_ascii, digit_value-digit_char, encodes-chars, scalars-chars}}
use Rattle.std.proofs.lemmas.Bool.{ne_eqb, le-ltb, lt-ltb, le-leb, lt-leb, cases_lt, cases_eq, and_parts, leb-true}
use Rattle.json.proofs.Printed.Strings.{escape_byte_plain}
use Rattle.json.specs.{Print.{escape_byte}, Text.{content, plain, after_high, prepend, code_unit, short_escape}}
use Rattle.json.specs.Text.{is_high_surrogate, is_low_surrogate, surrogate_pair}
use Rattle.json.specs.{Token.{Token}, Lex.{punctuate, tokens, token, string_token, fresh}, Json.{value, if_last}}
use Rattle.serde_json.specs.{Data.{string}, Read.{read, of_json, max_depth}}
use Rattle.json.specs.{Word.{is_operator, is_space}, Lex.{Lexeme, Mode, lex, lex_byte, between, in_string}}
use Rattle.json.specs.Lex.{operator, space, other}
use Rattle.dsa_conform.specs.{Quoted.{char_text, is_printable, unit_text, quoted_text}}

-- ---- the units of UTF-16

-- a digit has its value
valued : (place u : ℕ) → digit_value (hex_digit_at place u) ≡ u / place % 16
valued place u = digit_value-digit_char (u / place % 16) (omega arith)

unit_read : (u : ℕ) → u < 65536
    → code_unit (hex_digit_at 4096 u) (hex_digit_at 256 u) (hex_digit_at 16 u) (hex_digit_at 1 u) ≡ Some u
unfolding code_unit
unit_read u small =
    rw (
      valued 4096 u,
      valued 256 u,
      valued 16 u,
      valued 1 u,
      lt-ltb (u / 4096 % 16) 16 (omega arith),
      lt-ltb (u / 256 % 16) 16 (omega arith),
      lt-ltb (u / 16 % 16) 16 (omega arith),
      lt-ltb (u / 1 % 16) 16 (omega arith),
    ) (ap Some (omega (arith, small)))

-- what follows the escape of a unit
after_unit : ℕ → List ℕ → Option (List ℕ)
after_unit u r =
    cond (is_high_surrogate u) (content (after_high u) r)
    (cond (is_low_surrogate u) None (prepend (encode_utf8 u) (content plain r)))

read_unit : (u : ℕ) (r : List ℕ) → u < 65536 → content plain (unit_text u ++ r) ≡ after_unit u r
unfolding content after_unit
read_unit u r small = rw (unit_read u small) refl

after_low : ℕ → ℕ → List ℕ → Option (List ℕ)
after_low high low r =
    cond (is_low_surrogate low) (prepend (encode_utf8 (surrogate_pair high low)) (content plain r)) None

read_low : (high u : ℕ) (r : List ℕ) → u < 65536 → content (after_high high) (unit_text u ++ r) ≡ after_low high u r
unfolding content after_low
read_low high u r small = rw (unit_read u small) refl

-- a byte that is no quote and no backslash stays in a text
stays_inside : (o s : Bool) (x : ℕ) (r : List ℕ) (k : Mode → List Lexeme)
    → lex_byte in_string (cond o operator (cond s space other)) x r k ≡ k in_string
stays_inside true s x r k = refl
stays_inside false true x r k = refl
stays_inside false false x r k = refl

pass_over : (x : ℕ) (r : List ℕ) → ¬ (x ≡ 34) → ¬ (x ≡ 92) → lex in_string (x ∷ r) ≡ lex in_string r
unfolding lex
pass_over x r quote backslash =
    rw (ne_eqb x 34 quote, ne_eqb x 92 backslash) (stays_inside (is_operator x) (is_space x) x r (λ m. lex m r))

digit_range : (d : ℕ) → (48 ≤ digit_char d) × (¬ (digit_char d ≡ 92))
digit_range d = go (cases_lt d 10)
  where
    go : (d < 10) ⊎ (10 ≤ d) → (48 ≤ digit_char d) × (¬ (digit_char d ≡ 92))
    go (inl h) = rw (lt-ltb d 10 h) (omega arith, λ e. omega arith)
    go (inr h) = rw (le-ltb d 10 h) (omega arith, λ e. omega arith)

pass_digit : (place u : ℕ) (r : List ℕ) → lex in_string (hex_digit_at place u ∷ r) ≡ lex in_string r
pass_digit place u r =
    let range = digit_range (u / place % 16) in
    pass_over (hex_digit_at place u) r (λ e. omega (arith, range.0)) range.1

pass_unit : (u : ℕ) (r : List ℕ) → lex in_string (unit_text u ++ r) ≡ lex in_string r
unfolding lex
pass_unit u r = pass_digit 4096 u _ ∙ pass_digit 256 u _ ∙ pass_digit 16 u _ ∙ pass_digit 1 u r

-- ---- characters

-- what a reader makes of a character, before any text
record Passes (c : ℕ) : Type 0 where
  read : (r : List ℕ) → content plain (char_text c ++ r) ≡ prepend (encode_utf8 c) (content plain r)
  passed : (r : List ℕ) → lex in_string (char_text c ++ r) ≡ lex in_string r

quote_passes : Passes 34
unfolding escape_byte content lex short_escape encode_utf8
quote_passes = record { read = λ r. refl; passed = λ r. refl }

backslash_passes : Passes 92
unfolding escape_byte content lex short_escape encode_utf8
backslash_passes = record { read = λ r. refl; passed = λ r. refl }

shown_passes : (c : ℕ) → is_printable c ≡ true → ¬ (c ≡ 34) → ¬ (c ≡ 92) → Passes c
unfolding content
shown_passes c shown quote backslash =
    let parts = and_parts (nat_le 32 c) (nat_le c 126) shown in
    let low : 32 ≤ c = leb-true 32 c parts.0 in
    let high : c ≤ 126 = leb-true c 126 parts.1 in
    let same : char_text c ≡ c ∷ [] = rw shown (escape_byte_plain c quote backslash low) in
    record {
      read = λ r. rw (
        same,
        encode_ascii c (omega (arith, high)),
        ne_eqb c 34 quote,
        ne_eqb c 92 backslash,
        le-ltb c 32 low,
      ) refl;
      passed = λ r. rw same (pass_over c r quote backslash);
    }

-- a character of one unit
unit_passes : (c : ℕ) → is_printable c ≡ false → c < 65536 → is_high_surrogate c ≡ false → is_low_surrogate c ≡ false
    → Passes c
unfolding after_unit
unit_passes c hidden small high low =
    let same : (r : List ℕ) → char_text c ++ r ≡ unit_text c ++ r = λ r. rw (hidden, lt-ltb c 65536 small) refl in
    record {
      read = λ r. ap (content plain) (same r) ∙ read_unit c r small ∙ rw (high, low) refl;
      passed = λ r. ap (lex in_string) (same r) ∙ pass_unit c r;
    }

inside : (low high u : ℕ) → low ≤ u → u < high → (nat_le low u && nat_lt u high) ≡ true
inside low high u a b = rw (le-leb low u a, lt-ltb u high b) refl

below_both : (low high u : ℕ) → u < low → (nat_le low u && nat_lt u high) ≡ false
below_both low high u a = rw (lt-leb low u a) refl

above_both : (low high u : ℕ) → high ≤ u → (nat_le low u && nat_lt u high) ≡ false
above_both low high u a = rw (le-ltb u high a) (and_false (nat_le low u))
  where
    and_false : (b : Bool) → (b && false) ≡ false
    and_false true = refl
    and_false false = refl

-- a character of two units
pair_passes : (c : ℕ) → is_printable c ≡ false → 65536 ≤ c → c < 1114112 → Passes c
unfolding after_unit after_low
pair_passes c hidden large small =
    let over = c - 65536 in
    let high = 55296 + over / 1024 in
    let low = 56320 + over % 1024 in
    let high_fits : high < 56320 = omega (arith, large, small) in
    let low_fits : low < 57344 = omega arith in
    let same : (r : List ℕ) → char_text c ++ r ≡ unit_text high ++ (unit_text low ++ r) =
    λ r. rw (hidden, le-ltb c 65536 large) refl in
    let whole : surrogate_pair high low ≡ c = omega (arith, large) in
    record {
      read = λ r. ap (content plain) (same r) ∙ read_unit high (unit_text low ++ r) (omega (arith, high_fits))
          ∙ ap (λ b. cond b (content (after_high high) (unit_text low ++ r)) (cond (is_low_surrogate high) None
          (prepend (encode_utf8 high) (content plain (unit_text low ++ r)))))
          (inside 55296 56320 high (omega arith) high_fits)
          ∙ read_low high low r (omega (arith, low_fits))
          ∙ ap (λ b. cond b (prepend (encode_utf8 (surrogate_pair high low)) (content plain r)) None)
          (inside 56320 57344 low (omega arith) low_fits)
          ∙ ap (λ x. prepend (encode_utf8 x) (content plain r)) whole;
      passed = λ r. ap (lex in_string) (same r) ∙ pass_unit high _ ∙ pass_unit low r;
    }

passes : (c : ℕ) → IsScalar c → Passes c
passes c scalar = go (cases_eq c 34) (cases_eq c 92) (is_printable c) refl (cases_lt c 65536) (scalar_cases c scalar)
  where
    go : (c ≡ 34) ⊎ (c ≡ 34 → ⊥) → (c ≡ 92) ⊎ (c ≡ 92 → ⊥) → (b : Bool) → is_printable c ≡ b
        → (c < 65536) ⊎ (65536 ≤ c) → (c < 55296) ⊎ ((57344 ≤ c) × (c < 1114112)) → Passes c
    go (inl e) which b shown size range = subst Passes (sym e) quote_passes
    go (inr not_quote) (inl e) b shown size range = subst Passes (sym e) backslash_passes
    go (inr not_quote) (inr not_slash) true shown size range = shown_passes c shown not_quote not_slash
    go (inr not_quote) (inr not_slash) false hidden (inl small) (inl low) =
        unit_passes c hidden small (below_both 55296 56320 c low) (below_both 56320 57344 c (omega (arith, low)))
    go (inr not_quote) (inr not_slash) false hidden (inl small) (inr range) =
        unit_passes c hidden small (above_both 55296 56320 c (omega (arith, range.0)))
        (above_both 56320 57344 c range.0)
    go (inr not_quote) (inr not_slash) false hidden (inr large) (inl low) = absurd (omega (arith, large, low))
    go (inr not_quote) (inr not_slash) false hidden (inr large) (inr range) = pair_passes c hidden large range.1

-- ---- texts

prepend-prepend : (a b : List ℕ) (r : Option (List ℕ)) → prepend a (prepend b r) ≡ prepend (a ++ b) r
prepend-prepend a b None = refl
prepend-prepend a b (Some r) = ap Some (sym (append_assoc a b r))

read_chars : (cs r : List ℕ) → all_scalars cs ≡ true
    → content plain (flat_map char_text cs ++ 34 ∷ r) ≡ Some (encode_utf8_all cs)
unfolding content
read_chars [] r scalars = refl
read_chars (c ∷ cs) r scalars =
    let parts = and_parts _ (all_scalars cs) scalars in
    ap (content plain) (append_assoc (char_text c) (flat_map char_text cs) (34 ∷ r)) ∙ (passes c parts.0).read _
    ∙ ap (prepend (encode_utf8 c)) (read_chars cs r parts.1)

pass_chars : (cs r : List ℕ) → all_scalars cs ≡ true
    → lex in_string (flat_map char_text cs ++ 34 ∷ r) ≡ lex between r
unfolding lex
pass_chars [] r scalars = refl
pass_chars (c ∷ cs) r scalars =
    let parts = and_parts _ (all_scalars cs) scalars in
    ap (lex in_string) (append_assoc (char_text c) (flat_map char_text cs) (34 ∷ r)) ∙ (passes c parts.0).passed _
    ∙ pass_chars cs r parts.1

quoted_tokens : (s : List ℕ) → IsUtf8 s → tokens (quoted_text s) ≡ Token.string s ∷ []
unfolding lex punctuate
quoted_tokens s utf8 =
    let scalars = scalars-chars s utf8 in
    ap₂ (λ o l. punctuate fresh (token (string_token o) ∷ l))
    (read_chars (chars s) [] scalars ∙ ap Some (encodes-chars s utf8)) (pass_chars (chars s) [] scalars)

-- a text in JSON is read as the text
pub read_quoted : (s : List ℕ) → IsUtf8 s → read (quoted_text s) ≡ Some (string s)
unfolding value
read_quoted s utf8 =
    ap (λ ts. option_and_then of_json (option_and_then (λ p. if_last p.0 p.1) (value max_depth ts)))
    (quoted_tokens s utf8)
