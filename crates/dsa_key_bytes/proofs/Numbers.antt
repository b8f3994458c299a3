-- The bytes of numbers say the numbers.
use Rattle.std.proofs.Common.{◌≡◌, ℕ, zero, suc, ◌+◌, ◌/◌, ◌%◌, ◌<◌, ◌≤◌, true, false, cond, List, [], ◌∷◌, ◌++◌, nat_lt, refl, ap, sym, ◌∙◌, ⊎_elim, arith}
use Rattle.std.specs.List.{flat_map}
use Rattle.std.proofs.lemmas.Bool.{lt-ltb, cases_lt}
use Rattle.dsa_key_bytes.specs.Numbers.{first_bytes, number_bytes, bytes_of_numbers}

small-test : (n : ℕ) → n < 128 → nat_lt n 128 ≡ true
small-test n small = lt-ltb n 128 small

large-test : (n : ℕ) → 128 ≤ n → nat_lt n 128 ≡ false
large-test n large = grind (arith, large)

small-first : (count n : ℕ) → n < 128 → first_bytes (suc count) n ≡ n ∷ []
small-first count n small =
    ap (λ b. cond b (n ∷ []) ((n % 128 + 128) ∷ first_bytes count (n / 128))) (small-test n small)

large-first : (count n : ℕ) → 128 ≤ n → first_bytes (suc count) n ≡ (n % 128 + 128) ∷ first_bytes count (n / 128)
large-first count n large =
    ap (λ b. cond b (n ∷ []) ((n % 128 + 128) ∷ first_bytes count (n / 128))) (large-test n large)

-- with more bytes at most they are the same
same-first : (count other n : ℕ) → n < count → n < other → first_bytes count n ≡ first_bytes other n
same-first zero other n h k = absurd (omega arith)
same-first (suc count) zero n h k = absurd (omega arith)
same-first (suc count) (suc other) n h k = ⊎_elim
    (λ small. small-first count n small ∙ sym (small-first other n small))
    (λ large. large-first count n large
    ∙ ap (λ bytes. (n % 128 + 128) ∷ bytes) (same-first count other (n / 128) (omega arith) (omega arith))
    ∙ sym (large-first other n large))
    (cases_lt n 128)

pub small-number : (n : ℕ) → n < 128 → number_bytes n ≡ n ∷ []
unfolding number_bytes
small-number n small = let one : n + 1 ≡ suc n = omega arith in
    ap (λ k. first_bytes k n) one ∙ small-first n n small

pub large-number : (n : ℕ) → 128 ≤ n → number_bytes n ≡ (n % 128 + 128) ∷ number_bytes (n / 128)
unfolding number_bytes
large-number n large = let one : n + 1 ≡ suc n = omega arith in
    ap (λ k. first_bytes k n) one ∙ large-first n n large
    ∙ ap (λ bytes. (n % 128 + 128) ∷ bytes) (same-first n (n / 128 + 1) (n / 128) (omega arith) (omega arith))

-- what begins with the bytes of a number begins with those of no other
first-apart : (count other n m : ℕ) (r s : List ℕ) → n < count → m < other
    → first_bytes count n ++ r ≡ first_bytes other m ++ s → (n ≡ m) × (r ≡ s)
first-apart zero other n m r s h k e = absurd (omega arith)
first-apart (suc count) zero n m r s h k e = absurd (omega arith)
first-apart (suc count) (suc other) n m r s h k e = ⊎_elim
    (λ n_small. ⊎_elim
    (λ m_small.
    let both : n ∷ r ≡ m ∷ s = sym (ap (λ bytes. bytes ++ r) (small-first count n n_small)) ∙ e
    ∙ ap (λ bytes. bytes ++ s) (small-first other m m_small) in
    let same : n ≡ m = cc in let rest : r ≡ s = cc in (same, rest))
    (λ m_large.
    let both : n ∷ r ≡ (m % 128 + 128) ∷ (first_bytes other (m / 128) ++ s)
    = sym (ap (λ bytes. bytes ++ r) (small-first count n n_small)) ∙ e
    ∙ ap (λ bytes. bytes ++ s) (large-first other m m_large) in
    let same : n ≡ m % 128 + 128 = cc in absurd (omega arith))
    (cases_lt m 128))
    (λ n_large. ⊎_elim
    (λ m_small.
    let both : (n % 128 + 128) ∷ (first_bytes count (n / 128) ++ r) ≡ m ∷ s
    = sym (ap (λ bytes. bytes ++ r) (large-first count n n_large)) ∙ e
    ∙ ap (λ bytes. bytes ++ s) (small-first other m m_small) in
    let same : n % 128 + 128 ≡ m = cc in absurd (omega arith))
    (λ m_large.
    let both : (n % 128 + 128) ∷ (first_bytes count (n / 128) ++ r)
    ≡ (m % 128 + 128) ∷ (first_bytes other (m / 128) ++ s)
    = sym (ap (λ bytes. bytes ++ r) (large-first count n n_large)) ∙ e
    ∙ ap (λ bytes. bytes ++ s) (large-first other m m_large) in
    let same : n % 128 + 128 ≡ m % 128 + 128 = cc in
    let after : first_bytes count (n / 128) ++ r ≡ first_bytes other (m / 128) ++ s = cc in
    let rest : (n / 128 ≡ m / 128) × (r ≡ s)
    = first-apart count other (n / 128) (m / 128) r s (omega arith) (omega arith) after in
    let parts : n / 128 ≡ m / 128 = rest.0 in
    (omega arith, rest.1))
    (cases_lt m 128))
    (cases_lt n 128)

pub number-apart : (n m : ℕ) (r s : List ℕ) → number_bytes n ++ r ≡ number_bytes m ++ s → (n ≡ m) × (r ≡ s)
unfolding number_bytes
number-apart n m r s e = first-apart (n + 1) (m + 1) n m r s (omega arith) (omega arith) e

-- each number has a byte
pub number-some : (n : ℕ) (r : List ℕ) → ([] ≡ number_bytes n ++ r) → ⊥
number-some n r e = ⊎_elim
    (λ small. let none : [] ≡ n ∷ r = e ∙ ap (λ bytes. bytes ++ r) (small-number n small) in cc)
    (λ large. let none : [] ≡ (n % 128 + 128) ∷ (number_bytes (n / 128) ++ r)
    = e ∙ ap (λ bytes. bytes ++ r) (large-number n large) in cc)
    (cases_lt n 128)

pub numbers-apart : (ns ms : List ℕ) → flat_map number_bytes ns ≡ flat_map number_bytes ms → ns ≡ ms
numbers-apart [] [] e = refl
numbers-apart [] (m ∷ ms) e = absurd (number-some m (flat_map number_bytes ms) e)
numbers-apart (n ∷ ns) [] e = absurd (number-some n (flat_map number_bytes ns) (sym e))
numbers-apart (n ∷ ns) (m ∷ ms) e =
    let parts : (n ≡ m) × (flat_map number_bytes ns ≡ flat_map number_bytes ms)
    = number-apart n m (flat_map number_bytes ns) (flat_map number_bytes ms) e in
    (λ j. parts.0 j ∷ numbers-apart ns ms parts.1 j)

-- equal bytes are those of equal numbers
pub bytes-apart : (ns ms : List ℕ) → bytes_of_numbers ns ≡ bytes_of_numbers ms → ns ≡ ms
unfolding bytes_of_numbers
bytes-apart ns ms e = numbers-apart ns ms e
