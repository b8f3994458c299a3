-- The numbers of a set of 64 bits.
use Rattle.std.proofs.Common.{◌≡◌, ℕ, ◌+◌, ◌-◌, ◌<◌, ◌≤◌, ◌/◌, ◌%◌, ◌^◌, ◌*◌, ◌==◌, true, false, sym, ap, ◌∙◌, arith}
use Rattle.std.proofs.Common.{inl, inr}
use Rattle.std.proofs.lemmas.{Bool.{cases_lt}, Nat.{Bits.{bit_at-zero, bit_at_above, bit_at-trailing_zeros}}}
use Rattle.std.proofs.Math.Nat.{div-div-eq-div-mul}
use Rattle.std.specs.Int.{bit_at, trailing_zeros}
use Rattle.std.proofs.Common.{pow-add, w64}
use Rattle.dsa_base.specs.Numbers.{has, IsNext, NoneFrom}

-- none stands past the last bit
pub none-past : (set from : ℕ) → set < 2 ^ 64 → 64 ≤ from → NoneFrom set from
none-past set from h past k low =
    let no : bit_at set k ≡ 0 = bit_at_above set 64 k h (omega (arith, past, low)) in ap (λ b. b == 1) no

pub within-set : (set n : ℕ) → set < 2 ^ 64 → has set n ≡ true → n < 64
within-set set n h there = elim (cases_lt n 64) [
  | inl low ↦ low
  | inr past ↦ let no : false ≡ true = sym (none-past set 64 h (omega arith) n past) ∙ there in absurd cc
]

module _ (set from : ℕ) where
  -- a set without its numbers below one has the others so much lower
  has-shifted : (k : ℕ) → from ≤ k → has set k ≡ has (set / 2 ^ from) (k - from)
  has-shifted k low =
      let place : from + (k - from) ≡ k = omega (arith, low) in
      let power : 2 ^ from * 2 ^ (k - from) ≡ 2 ^ k = sym (pow-add 2 from (k - from)) ∙ ap (λ i. 2 ^ i) place in
      ap (λ n. n % 2 == 1) (sym (div-div-eq-div-mul set (2 ^ from) (2 ^ (k - from)) ∙ ap (λ p. set / p) power))

  -- where nothing is left there is none
  pub none-left : set / 2 ^ from ≡ 0 → NoneFrom set from
  none-left none k low = has-shifted k low ∙ rw none (ap (λ b. b == 1) (bit_at-zero (k - from)))

  -- and else the lowest bit of what is left is the first
  pub next-left : set / 2 ^ from < 2 ^ 64 → 0 < set / 2 ^ from
      → IsNext set from (from + trailing_zeros w64 (set / 2 ^ from))
  next-left fits some =
      let rest = set / 2 ^ from in
      let t = trailing_zeros w64 rest in
      let lowest = bit_at-trailing_zeros w64 rest some fits in
      let back : from + t - from ≡ t = omega arith in
      record {
        from_there = omega arith;
        in_the_set =
            has-shifted (from + t) (omega arith) ∙ ap (has rest) back ∙ ap (λ b. b == 1) lowest.1;
        first = λ k low below.
            has-shifted k low ∙ ap (λ b. b == 1) (lowest.2 (k - from) (omega (arith, low, below)));
      }
