-- What printable texts are made of.
use Rattle.std.proofs.Common.{◌≡◌, ◌≤◌, ◌<◌, ◌+◌, ◌/◌, ◌%◌, ◌==◌, ◌⊎◌, inl, inr, ℕ, zero, suc, refl, arith}
use Rattle.std.proofs.Common.{List, [], ◌∷◌, ◌++◌, flat_map, Bool, true, false, cond, ◌&&◌}
use Rattle.std.proofs.lemmas.Bool.{and_parts, cases_lt, lt-ltb, le-ltb, le-leb}
use Rattle.std.specs.{List.{list_all}, Fmt.{digits, decimal, digits_onto, digit_glyph}}
use Rattle.dsa_conform.specs.Quoted.{is_printable}

-- the text is printable
abbrev pub Shown : List ℕ → Type 0
Shown text = list_all is_printable text ≡ true

pub both : (a b : Bool) → a ≡ true → b ≡ true → (a && b) ≡ true
both true true p q = refl
both true false p q = q
both false b p q = p

pub joined : (a b : List ℕ) → Shown a → Shown b → Shown (a ++ b)
joined [] b p q = q
joined (x ∷ a) b p q =
    let parts = and_parts (is_printable x) (list_all is_printable a) p in
    both (is_printable x) (list_all is_printable (a ++ b)) parts.0 (joined a b parts.1 q)

pub chosen : (t : Bool) (a b : List ℕ) → Shown a → Shown b → Shown (cond t a b)
chosen true a b p q = p
chosen false a b p q = q

pub listed : {X : Type 0} (f : X → List ℕ) (xs : List X) → ((x : X) → Shown (f x)) → Shown (flat_map f xs)
listed f [] each = refl
listed f (x ∷ xs) each = joined (f x) (flat_map f xs) (each x) (listed f xs each)

ranged : (c : ℕ) → 32 ≤ c → c ≤ 126 → is_printable c ≡ true
ranged c low high = rw (le-leb 32 c low, le-leb c 126 high) refl

pub digit : (d : ℕ) → d < 16 → is_printable (digit_glyph false d) ≡ true
digit d small = go (cases_lt d 10)
  where
    go : (d < 10) ⊎ (10 ≤ d) → is_printable (digit_glyph false d) ≡ true
    go (inl h) = rw (lt-ltb d 10 h) (ranged (48 + d) (omega arith) (omega (arith, h)))
    go (inr h) = rw (le-ltb d 10 h) (ranged (87 + d) (omega arith) (omega (arith, small)))

onto : (k base n : ℕ) (rest : List ℕ) → ((m : ℕ) → is_printable (digit_glyph false (m % base)) ≡ true)
    → Shown rest → Shown (digits_onto k base false n rest)
onto zero base n rest each p = p
onto (suc k) base n rest each p =
    chosen (n / base == 0) (digit_glyph false (n % base) ∷ rest)
    (digits_onto k base false (n / base) (digit_glyph false (n % base) ∷ rest))
    (both _ _ (each n) p) (onto k base (n / base) (digit_glyph false (n % base) ∷ rest) each (both _ _ (each n) p))

pub number : (n : ℕ) → Shown (decimal n)
unfolding digits
number n = onto 64 10 n [] (λ m. digit (m % 10) (omega arith)) refl

pub hex : (n : ℕ) → Shown (digits 16 false n)
unfolding digits
hex n = onto 64 16 n [] (λ m. digit (m % 16) (omega arith)) refl

-- what a search for a text's parts may use
pub ruleset parts = (joined, chosen, number, hex)
