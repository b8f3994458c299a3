-- Numbers of JSON that are whole and without sign.
use Rattle.std.proofs.Common.{◌≡◌, ℕ, ◌^◌, ◌<◌, ◌&&◌, Bool, true, false, Option, Some, None, SomeIff, option_and_then, nat_lt, length}
use Rattle.std.proofs.Common.{◌+◌, ◌-◌, ◌*◌, ◌≤◌, suc, List, [], ◌∷◌, ◌++◌, get_or, drop, append-nil, ne_eqb, subst, arith}
use Rattle.std.proofs.Common.{refl, sym, ap, ◌∙◌, eq-eqb, lt-ltb, ltb-true, eqb-true, true≢false, not, if◌then◌else◌}
use Rattle.std.proofs.Math.Nat.{pow-succ', pow-le-pow_right}
use Rattle.std.proofs.lemmas.{List.{drop_more}, Str.{digit_value_digit}}
use Rattle.std.specs.Char.{digit_value}
use Rattle.std.specs.Float.{binary64}
use Rattle.std.specs.Str.Parse.{AllDigits, IsNumeral, digits_value, digits_value_after}
use Rattle.fast_float.specs.Text.{Parts, scan, digits_of, nearest, with_sign, IsInteger, IsWellFormed}
use Rattle.fast_float.proofs.Writing.{scan-text_of}
use Rattle.serde_json.specs.{Data.{Num, unsigned, negative, float}, Find.{as_u64}, Read.{number_of, number_from, float_of, is_integer}}

float_is_none : (b : Bool) (n : Num) → as_u64 n ≡ None → option_and_then as_u64 (if b then Some n else None) ≡ None
float_is_none true n e = e
float_is_none false n e = refl

none_of_float : (sign : Bool) (p : Parts) → option_and_then as_u64 (float_of sign p) ≡ None
none_of_float sign p = float_is_none _ (float (nearest binary64 sign p)) refl

either_none : (b : Bool) (x y : Option Num) → option_and_then as_u64 x ≡ None → option_and_then as_u64 y ≡ None
    → option_and_then as_u64 (if b then x else y) ≡ None
either_none true x y p q = p
either_none false x y p q = q

-- a number with a sign is none
pub none_below_zero : (p : Parts) → option_and_then as_u64 (number_from true p) ≡ None
none_below_zero p =
    either_none _ (Some (negative (with_sign true (digits_of p)))) (float_of true p) refl (none_of_float true p)

and_left : (a b : Bool) → (a && b) ≡ true → a ≡ true
and_left true b e = refl
and_left false b e = e

and_right : (a b : Bool) → (a && b) ≡ true → b ≡ true
and_right true b e = e
and_right false b e = absurd (true≢false (sym e))

no_point : (b : Bool) → not b ≡ true → b ≡ false
no_point true e = sym e
no_point false e = refl

is_whole : (p : Parts) → (is_integer p && nat_lt (digits_of p) (2 ^ 64)) ≡ true → IsInteger p × (digits_of p < 2 ^ 64)
is_whole p e =
    let whole = and_left (is_integer p) _ e in
    let both = and_left (nat_lt 0 (length p.whole) && not p.point) _ whole in (
      (
        ltb-true _ _ (and_left (nat_lt 0 (length p.whole)) _ both),
        no_point p.point (and_right (nat_lt 0 (length p.whole)) _ both),
        eqb-true _ _ (and_right (nat_lt 0 (length p.whole) && not p.point) _ whole),
      ),
      ltb-true _ _ (and_right (is_integer p) _ e),
    )

tests_whole : (p : Parts) → IsInteger p × (digits_of p < 2 ^ 64) → (is_integer p && nat_lt (digits_of p) (2 ^ 64)) ≡ true
tests_whole p ((some, point, none), small) =
    rw (lt-ltb _ _ some, point, eq-eqb _ _ none, lt-ltb _ _ small) refl

tested : (p : Parts) (b : Bool) → (is_integer p && nat_lt (digits_of p) (2 ^ 64)) ≡ b → (r : Option ℕ)
    → SomeIff r (IsInteger p × (digits_of p < 2 ^ 64)) (digits_of p)
    → r ≡ option_and_then as_u64 (if b then Some (unsigned (digits_of p)) else float_of false p)
tested p true e (Some n) h = ap Some h.1
tested p true e None h = absurd (h (is_whole p e))
tested p false e (Some n) h = absurd (true≢false (sym (tests_whole p h.0) ∙ e))
tested p false e None h = sym (none_of_float false p)

-- one without a sign is its digits, where no point and no exponent comes
pub read_as : (p : Parts) (r : Option ℕ) → SomeIff r (IsInteger p × (digits_of p < 2 ^ 64)) (digits_of p)
    → r ≡ option_and_then as_u64 (number_from false p)
read_as p r h = tested p _ refl r h

-- ---- digits, one after another

-- the number of the first i bytes, which are digits
abbrev pub AreRead : List ℕ → ℕ → ℕ → Type 0
AreRead bytes i n =
    (AllDigits 10 (drop i bytes) → AllDigits 10 bytes)
    × (digits_value_after 10 n (drop i bytes) ≡ digits_value 10 bytes)
    × (n < 10 ^ i)

pub one_digit_more : (bytes : List ℕ) (i n d : ℕ) → i < length bytes → 48 ≤ get_or bytes i d → get_or bytes i d ≤ 57
    → AreRead bytes i n → AreRead bytes (i + 1) (n * 10 + (get_or bytes i d - 48))
one_digit_more bytes i n d inside least most h =
    let worth = digit_value_digit (get_or bytes i d) (least, most) in
    let is : digit_value (get_or bytes i d) ≡ get_or bytes i d - 48 = omega (arith, worth) in
    let below : digit_value (get_or bytes i d) < 10 = omega (arith, worth) in
    let next : suc i ≡ i + 1 = omega arith in
    let small : n * 10 + (get_or bytes i d - 48) < 10 ^ suc i = omega (arith, h.2, pow-succ' 10 i) in (
      λ rest. h.0 (subst (AllDigits 10) (sym (drop_more bytes i d inside)) (below, rest)),
      ap (λ m. digits_value_after 10 (n * 10 + m) (drop (i + 1) bytes)) (sym is)
          ∙ ap (digits_value_after 10 n) (sym (drop_more bytes i d inside))
          ∙ h.1,
      subst (λ k. n * 10 + (get_or bytes i d - 48) < 10 ^ k) next small,
    )

-- another digit has room behind 18
pub room_for_digit : (i n : ℕ) → i < 19 → n < 10 ^ i → n < 10 ^ 18
room_for_digit i n within h =
    let most : 10 ^ i ≤ 10 ^ 18 = pow-le-pow_right {n = 10} (omega arith) {i = i} {j = 18} (omega arith) in
    omega (arith, h, most)

-- and nothing behind 19
pub fits_in_word : (i n : ℕ) → i ≤ 19 → n < 10 ^ i → n < 2 ^ 64
fits_in_word i n within h =
    let most : 10 ^ i ≤ 10 ^ 19 = pow-le-pow_right {n = 10} (omega arith) {i = i} {j = 19} (omega arith) in
    omega (arith, h, most)

abbrev of_digits : List ℕ → Parts
of_digits ds = record {
  whole = ds;
  point = false;
  fraction = [];
  exponent_negative = false;
  exponent = [];
  len = length (ds ++ []);
}

no_minus : (ds : List ℕ) → IsNumeral 10 ds → get_or ds 0 0 ≡ 45 → ⊥
no_minus [] h e = omega (arith, h.0)
no_minus (d ∷ ds) h e = let digit : digit_value d < 10 = h.1.0 in let is : d ≡ 45 = e in grind arith

-- digits alone are their number
pub number_of_digits : (ds : List ℕ) → IsNumeral 10 ds → digits_value 10 ds < 2 ^ 64
    → number_of ds ≡ Some (unsigned (digits_value 10 ds))
unfolding number_of
number_of_digits ds h small =
    let formed : IsWellFormed (of_digits ds) = record {
      whole_digits = h.1;
      fraction_digits = tt;
      exponent_digits = tt;
      no_point = λ _. refl;
      no_exponent = λ _. refl;
      len_is = refl;
    } in
    let scanned : scan ds ≡ of_digits ds = ap scan (sym (append-nil ds)) ∙ scan-text_of (of_digits ds) formed in
    let is : digits_of (of_digits ds) ≡ digits_value 10 ds = ap (digits_value 10) (append-nil ds) in
    let fits : digits_of (of_digits ds) < 2 ^ 64 = subst (λ n. n < 2 ^ 64) (sym is) small in
    rw (ne_eqb (get_or ds 0 0) 45 (no_minus ds h))
    (ap (number_from false) scanned
    ∙ rw (tests_whole (of_digits ds) ((h.0, refl, refl), fits)) (ap (λ n. Some (unsigned n)) is))
