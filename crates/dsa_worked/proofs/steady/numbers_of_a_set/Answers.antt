use Rattle.dsa_worked.proofs.steady.numbers_of_a_set.Goals as goal
use Rattle.std.proofs.Common.{◌≡◌, ◌<◌, ◌≤◌, ℕ, zero, suc, arith, false, lit≤, refl}
use Rattle.std.proofs.lemmas.Nat.Bits.{bit_at_above}
use Rattle.dsa_base.specs.Numbers.{has}

-- below 2 there is none
first : (k : ℕ) → 1 ≤ k → k < 2 → has 20 k ≡ false
first zero from low = refl
first (suc zero) from low = refl
first (suc (suc k)) from low = absurd (omega (arith, low))

pub returns-clause-next : goal.returns-clause-next
returns-clause-next c = record { from_there = lit≤ tt; in_the_set = refl; first = first }

pub returns-clause-here : goal.returns-clause-here
returns-clause-here c = record {
  from_there = lit≤ tt;
  in_the_set = refl;
  first = λ k from low. absurd (omega (arith, from, low));
}

pub returns-clause-not_first : goal.returns-clause-not_first
returns-clause-not_first c is = grind (arith, is.first 2 (lit≤ tt) (lit≤ tt))

pub returns-clause-one_from : goal.returns-clause-one_from
returns-clause-one_from c none = grind (arith, none 4 (lit≤ tt))

pub returns-clause-not_the_first_there : goal.returns-clause-not_the_first_there
returns-clause-not_the_first_there c is = grind (arith, is.first 2 (lit≤ tt) (lit≤ tt))

-- nor at 3
third : (k : ℕ) → 3 ≤ k → k < 4 → has 20 k ≡ false
third zero from low = absurd (omega (arith, from))
third (suc zero) from low = absurd (omega (arith, from))
third (suc (suc zero)) from low = absurd (omega (arith, from))
third (suc (suc (suc zero))) from low = refl
third (suc (suc (suc (suc k)))) from low = absurd (omega (arith, low))

pub returns-clause-past_another : goal.returns-clause-past_another
returns-clause-past_another c = record { from_there = lit≤ tt; in_the_set = refl; first = third }

pub returns-clause-none_from : goal.returns-clause-none_from
returns-clause-none_from c k from = grind (arith, bit_at_above 20 5 k (lit≤ tt) from)
