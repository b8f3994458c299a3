-- A line with more numbers, step by step.
use Rattle.std.proofs.Common.{◌≡◌, ℕ, ◌+◌, ◌/◌, ◌%◌, ◌≤◌, ◌<◌, List, [], ◌∷◌, ◌++◌, refl, ap, sym, ◌∙◌, fold, take, get_or, length, nat_le, is_some, Bool, true, false, Some, None, Result, Ok, Err, OnOk, OnErr, ⊎_elim, arith}
use Rattle.std.proofs.lemmas.Bool.{false≢true, lt-ltb, le-ltb, le-leb, lt-leb, cases_lt}
use Rattle.std.proofs.lemmas.Option.{none-some}
use Rattle.dsa_base.specs.Rows.{when}
use Rattle.std.specs.List.{flat_map}
use Rattle.std.proofs.lemmas.List.{append-nil, append_assoc, take_more, length_push, length-append}
use Rattle.std.proofs.lemmas.List.Sums.{fold-append}
use Rattle.std.proofs.lemmas.List.Concat.{flat_map-append}
use Rattle.dsa_key_bytes.specs.Numbers.{number_bytes, bytes_of_numbers}
use Rattle.dsa_key_bytes.specs.Line.{Written, with_byte, with_bytes, with_numbers, emptied}
use Rattle.dsa_key_bytes.proofs.Numbers.{small-number, large-number}

pub with_numbers-nil : (line : Written) → with_numbers line [] ≡ line
unfolding with_numbers with_bytes bytes_of_numbers
with_numbers-nil line = refl

pub with_numbers-append : (line : Written) (ns ms : List ℕ)
    → with_numbers (with_numbers line ns) ms ≡ with_numbers line (ns ++ ms)
unfolding with_numbers with_bytes bytes_of_numbers
with_numbers-append line ns ms = sym (ap (fold with_byte line) (flat_map-append number_bytes ns ms)
    ∙ fold-append with_byte line (flat_map number_bytes ns) (flat_map number_bytes ms))

-- the last byte of a number
pub small-written : (line : Written) (n : ℕ) → n < 128 → with_byte line n ≡ with_numbers line (n ∷ [])
unfolding with_numbers with_bytes bytes_of_numbers
small-written line n small = sym (ap (fold with_byte line) (append-nil (number_bytes n) ∙ small-number n small))

-- the first byte of a number, and the others
pub large-written : (line : Written) (n : ℕ) → 128 ≤ n
    → with_numbers (with_byte line (n % 128 + 128)) (n / 128 ∷ []) ≡ with_numbers line (n ∷ [])
unfolding with_numbers with_bytes bytes_of_numbers
large-written line n large = ap (fold with_byte (with_byte line (n % 128 + 128))) (append-nil (number_bytes (n / 128)))
    ∙ sym (ap (fold with_byte line) (append-nil (number_bytes n) ∙ large-number n large))

-- one step more
pub written-more : (first line next : Written) (ns ms : List ℕ) → line ≡ with_numbers first ns
    → next ≡ with_numbers line ms → next ≡ with_numbers first (ns ++ ms)
written-more first line next ns ms before step =
    step ∙ ap (λ (each : Written). with_numbers each ms) before ∙ with_numbers-append first ns ms

-- three steps
pub written-three : (first one two three : Written) (ns ms ks : List ℕ) → one ≡ with_numbers first ns
    → two ≡ with_numbers one ms → three ≡ with_numbers two ks → three ≡ with_numbers first (ns ++ (ms ++ ks))
written-three first one two three ns ms ks e f g =
    written-more first one three ns (ms ++ ks) e (written-more one two three ms ks f g)

-- the same number by another term
pub renumber : (first line : Written) (n m : ℕ) → line ≡ with_numbers first (n ∷ []) → n ≡ m
    → line ≡ with_numbers first (m ∷ [])
renumber first line n m e same = e ∙ ap (λ k. with_numbers first (k ∷ [])) same

-- one thing more
pub each-more : {X A : Type 0} (numbers : X → List A) (xs : List X) (i : ℕ) (d : X) → i < length xs
    → flat_map numbers (take i xs) ++ numbers (get_or xs i d) ≡ flat_map numbers (take (i + 1) xs)
each-more numbers xs i d within =
    sym (ap (flat_map numbers) (take_more xs i d within)
    ∙ flat_map-append numbers (take i xs) (get_or xs i d ∷ [])
    ∙ ap (λ last. flat_map numbers (take i xs) ++ last) (append-nil (numbers (get_or xs i d))))

-- the numbers of one thing more, behind how many there are
pub with_count-more : {X : Type 0} (numbers : X → List ℕ) (first line next : Written) (n : ℕ) (xs : List X) (i : ℕ) (d : X)
    → i < length xs → line ≡ with_numbers first (n ∷ flat_map numbers (take i xs))
    → next ≡ with_numbers line (numbers (get_or xs i d))
    → next ≡ with_numbers first (n ∷ flat_map numbers (take (i + 1) xs))
with_count-more numbers first line next n xs i d within before step =
    written-more first line next (n ∷ flat_map numbers (take i xs)) (numbers (get_or xs i d)) before step
    ∙ ap (λ rest. with_numbers first (n ∷ rest)) (each-more numbers xs i d within)

-- the numbers of one thing more
pub walked-more : {X : Type 0} (numbers : X → List ℕ) (first line next : Written) (before : List X) (x : X)
    → line ≡ with_numbers first (flat_map numbers before) → next ≡ with_numbers line (numbers x)
    → next ≡ with_numbers first (flat_map numbers (before ++ x ∷ []))
walked-more numbers first line next before x so_far step =
    written-more first line next (flat_map numbers before) (numbers x) so_far step
    ∙ ap (with_numbers first) (sym (flat_map-append numbers before (x ∷ [])
    ∙ ap (λ last. flat_map numbers before ++ last) (append-nil (numbers x))))

-- ---- what was written

-- what was lost stays lost
lost : (capacity : ℕ) (bytes : List ℕ)
    → fold with_byte (record { capacity = capacity; bytes = None }) bytes ≡ record { capacity = capacity; bytes = None }
lost capacity [] = refl
lost capacity (byte ∷ bytes) = lost capacity bytes

-- the bytes are kept where they fit
kept-behind : (capacity : ℕ) (before bytes : List ℕ) → length before ≤ capacity
    → fold with_byte (record { capacity = capacity; bytes = Some before }) bytes ≡ record {
      capacity = capacity;
      bytes = when (nat_le (length (before ++ bytes)) capacity) (before ++ bytes);
    }
kept-behind capacity before [] within = λ j. record {
  capacity = capacity;
  bytes = sym (ap (λ all. when (nat_le (length all) capacity) all) (append-nil before)
      ∙ ap (λ fits. when fits before) (le-leb (length before) capacity within)) j;
}
kept-behind capacity before (byte ∷ bytes) within = ⊎_elim
    (λ room. ap (λ fits. fold with_byte (record { capacity = capacity; bytes = when fits (before ++ byte ∷ []) }) bytes)
    (lt-ltb (length before) capacity room)
    ∙ kept-behind capacity (before ++ byte ∷ []) bytes (omega (arith, length_push before byte))
    ∙ ap (λ all. record { capacity = capacity; bytes = when (nat_le (length all) capacity) all })
    (append_assoc before (byte ∷ []) bytes))
    (λ full. ap (λ fits. fold with_byte (record { capacity = capacity; bytes = when fits (before ++ byte ∷ []) }) bytes)
    (le-ltb (length before) capacity full)
    ∙ lost capacity bytes
    ∙ ap (λ fits. record { capacity = capacity; bytes = when fits (before ++ byte ∷ bytes) })
    (sym (lt-leb (length (before ++ byte ∷ bytes)) capacity (omega (arith, length-append before (byte ∷ bytes))))))
    (cases_lt (length before) capacity)

-- so are those of numbers
pub kept : (line : Written) (numbers : List ℕ) → with_numbers (emptied line) numbers ≡ record {
  capacity = line.capacity;
  bytes = when (nat_le (length (bytes_of_numbers numbers)) line.capacity) (bytes_of_numbers numbers);
}
unfolding with_numbers with_bytes
kept line numbers = kept-behind line.capacity [] (bytes_of_numbers numbers) (omega arith)

-- they are all there, where there are any
pub kept-all : (fits : Bool) (bytes : List ℕ) → is_some (when fits bytes) ≡ true → when fits bytes ≡ Some bytes
kept-all true bytes some = refl
kept-all false bytes some = absurd (false≢true some)

-- or did not fit
pub kept-none : (n m : ℕ) (bytes : List ℕ) → when (nat_le n m) bytes ≡ None → m < n
kept-none n m bytes none = ⊎_elim (λ above. above)
    (λ within. absurd (none-some bytes (sym none ∙ ap (λ fits. when fits bytes) (le-leb n m within)))) (cases_lt m n)

-- what follows of an answer that it is Ok, or not
pub on-ok : {A E : Type 0} (r : Result A E) (P Q : Type 0) → OnOk r P → (P → Q) → OnOk r Q
on-ok (Ok x) P Q p follows = follows p
on-ok (Err e) P Q p follows = p

pub on-err : {A E : Type 0} (r : Result A E) (P Q : Type 0) → OnErr r P → (P → Q) → OnErr r Q
on-err (Ok x) P Q p follows = p
on-err (Err e) P Q p follows = follows p

-- a line that was emptied, and to which these numbers were written
module _ (line after : Written) (numbers : List ℕ) (is : after ≡ with_numbers (emptied line) numbers) where
  bytes-after : after.bytes
      ≡ when (nat_le (length (bytes_of_numbers numbers)) line.capacity) (bytes_of_numbers numbers)
  bytes-after = ap (λ (each : Written). each.bytes) (is ∙ kept line numbers)

  pub capacity-after : after.capacity ≡ line.capacity
  capacity-after = ap (λ (each : Written). each.capacity) (is ∙ kept line numbers)

  pub written-after : is_some after.bytes ≡ true → after.bytes ≡ Some (bytes_of_numbers numbers)
  written-after some = bytes-after ∙ kept-all (nat_le (length (bytes_of_numbers numbers)) line.capacity)
      (bytes_of_numbers numbers) (ap is_some (sym bytes-after) ∙ some)

  pub too_long-after : after.bytes ≡ None → line.capacity < length (bytes_of_numbers numbers)
  too_long-after none = kept-none (length (bytes_of_numbers numbers)) line.capacity (bytes_of_numbers numbers)
      (sym bytes-after ∙ none)
