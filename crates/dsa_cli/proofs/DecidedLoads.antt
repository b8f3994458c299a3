-- Loads that are in range, and numbers that options have, by computation.
use Rattle.std.proofs.Common.{◌≡◌, ◌≤◌, ◌∙◌, ℕ, List, [], Bool, true, false, ◌&&◌, ◌||◌, Option, Some}
use Rattle.std.proofs.Common.{None, codes, refl, ap, subst, unwrap_or}
use Rattle.std.proofs.lemmas.Bool.{eqb-true, leb-true, le-ltb}
use Rattle.std.specs.{Prelude.{eqb, leb, ltb}, Str.Parse.{digits_value, without_leading_plus}}
use Rattle.clap.specs.Walk.{Row, Text, one_of}
use Rattle.dsa_explore.specs.declared.search.Bounds.{Bounds}
use Rattle.dsa_cli.specs.declared.options.Workload.{Workload}
use Rattle.dsa_cli.specs.{CommandLine.{AreBoundsOf, AreNumbersOf, IsNumberOf}, Threads.{IsInRange}}

first : (x y : Bool) → (x && y) ≡ true → x ≡ true
first true y e = refl
first false y e = absurd cc

rest : (x y : Bool) → (x && y) ≡ true → y ≡ true
rest true y e = e
rest false y e = absurd cc

last : (x y z : Bool) → x ≡ false → y ≡ false → (x || (y || z)) ≡ true → z ≡ true
last false false z low high e = e
last _ _ z low high e = absurd cc

-- each of eight parts
eight : (a b c d e f g h : Bool) → (a && (b && (c && (d && (e && (f && (g && h))))))) ≡ true
    → (a ≡ true) × (b ≡ true) × (c ≡ true) × (d ≡ true) × (e ≡ true) × (f ≡ true) × (g ≡ true)
    × (h ≡ true)
eight true true true true true true true true all = (refl, refl, refl, refl, refl, refl, refl, refl)
eight _ _ _ _ _ _ _ _ all = absurd cc

-- ---- loads

-- whether n is between both bounds
abbrev within : ℕ → ℕ → ℕ → Bool
within least most n = leb least n && leb n most

bounds : (least most n : ℕ) → within least most n ≡ true → (least ≤ n) × (n ≤ most)
bounds least most n e = (leb-true least n (first _ _ e), leb-true n most (rest _ _ e))

-- whether each number of the load is
abbrev pub is_in_range : Workload → Bool
is_in_range load = within 1 16 load.clients && (within 1 8 load.engines && (within 1 1_000 load.each
    && (within 1 40_000 load.turns && (within 1 1_024 load.size && (within 1 load.size load.threshold
    && (within 1 16 load.slots && within 4 255 load.buffers))))))

pub in_range : (load : Workload) → is_in_range load ≡ true → IsInRange load
in_range load e =
    let all = eight _ _ _ _ _ _ _ _ e in
    record {
      clients = bounds _ _ _ all.0;
      engines = bounds _ _ _ all.1;
      each = bounds _ _ _ all.2;
      turns = bounds _ _ _ all.3;
      size = bounds _ _ _ all.4;
      threshold = bounds _ _ _ all.5;
      slots = bounds _ _ _ all.6;
      buffers = bounds _ _ _ all.7;
    }

-- ---- numbers of options

-- the number that a text says
abbrev pub number_in : Option Text → ℕ
number_in o = digits_value 10 (without_leading_plus (unwrap_or o []))

-- a load has the numbers that the texts of options say
pub said_numbers : (rows : List Row) (load : Workload)
    → load.clients ≡ number_in (one_of (codes "clients") rows)
    → load.engines ≡ number_in (one_of (codes "engines") rows)
    → load.each ≡ number_in (one_of (codes "each") rows)
    → load.turns ≡ number_in (one_of (codes "turns") rows)
    → load.size ≡ number_in (one_of (codes "size") rows)
    → load.threshold ≡ number_in (one_of (codes "threshold") rows)
    → load.slots ≡ number_in (one_of (codes "slots") rows)
    → load.buffers ≡ number_in (one_of (codes "buffers") rows)
    → AreNumbersOf rows load
said_numbers rows load clients engines each turns size threshold slots buffers = record {
  clients = λ text has numeral least most. clients ∙ ap number_in has;
  engines = λ text has numeral least most. engines ∙ ap number_in has;
  each = λ text has numeral least most. each ∙ ap number_in has;
  turns = λ text has numeral least most. turns ∙ ap number_in has;
  size = λ text has numeral least most. size ∙ ap number_in has;
  threshold = λ text has numeral least most. threshold ∙ ap number_in has;
  slots = λ text has numeral least most. slots ∙ ap number_in has;
  buffers = λ text has numeral least most. buffers ∙ ap number_in has;
}

-- bounds are those that the texts of options say
pub said_bounds : (rows : List Row) (bounds : Bounds) → bounds.states ≡ number_in (one_of (codes "states") rows)
    → bounds.key_bytes ≡ number_in (one_of (codes "key-bytes") rows) → AreBoundsOf rows bounds
said_bounds rows bounds states key_bytes = record {
  states = λ text has numeral least most. states ∙ ap number_in has;
  key_bytes = λ text has numeral least most. key_bytes ∙ ap number_in has;
}

-- whether n will do for an option with this text: it says n, or no number from `least` to `most`, or there is none
abbrev fits : ℕ → ℕ → ℕ → Option Text → Bool
fits least most n None = true
fits least most n (Some text) = ltb (digits_value 10 (without_leading_plus text)) least
    || (ltb most (digits_value 10 (without_leading_plus text)) || eqb n (digits_value 10 (without_leading_plus text)))

number : (rows : List Row) (name : Text) (least most n : ℕ) → fits least most n (one_of name rows) ≡ true
    → IsNumberOf rows name least most n
number rows name least most n e text has numeral low high =
    let value = digits_value 10 (without_leading_plus text) in
    let does : fits least most n (Some text) ≡ true = subst (λ o. fits least most n o ≡ true) has e in
    eqb-true n value (last _ _ _ (le-ltb value least low) (le-ltb most value high) does)

-- whether each number of the load will do
abbrev pub all_fit : List Row → Workload → Bool
all_fit rows load = fits 1 16 load.clients (one_of (codes "clients") rows)
    && (fits 1 8 load.engines (one_of (codes "engines") rows)
    && (fits 1 1_000 load.each (one_of (codes "each") rows)
    && (fits 1 40_000 load.turns (one_of (codes "turns") rows)
    && (fits 1 1_024 load.size (one_of (codes "size") rows)
    && (fits 1 1_024 load.threshold (one_of (codes "threshold") rows)
    && (fits 1 16 load.slots (one_of (codes "slots") rows)
    && fits 4 255 load.buffers (one_of (codes "buffers") rows)))))))

pub numbers_of : (rows : List Row) (load : Workload) → all_fit rows load ≡ true → AreNumbersOf rows load
numbers_of rows load e =
    let all = eight _ _ _ _ _ _ _ _ e in
    record {
      clients = number rows (codes "clients") 1 16 _ all.0;
      engines = number rows (codes "engines") 1 8 _ all.1;
      each = number rows (codes "each") 1 1_000 _ all.2;
      turns = number rows (codes "turns") 1 40_000 _ all.3;
      size = number rows (codes "size") 1 1_024 _ all.4;
      threshold = number rows (codes "threshold") 1 1_024 _ all.5;
      slots = number rows (codes "slots") 1 16 _ all.6;
      buffers = number rows (codes "buffers") 4 255 _ all.7;
    }
