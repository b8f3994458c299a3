-- Numbers below a small bound.
use Rattle.std.proofs.Common.{◌≡◌, ℕ, ◌<◌, inl, inr, arith, subst}
use Rattle.std.proofs.lemmas.Bool.{cases_lt}

-- what holds of number 0 holds of each number below 1
pub below_one : (P : ℕ → Type 0) → P 0 → (k : ℕ) → k < 1 → P k
below_one P holds k below =
    let none : 0 ≡ k = omega (arith, below) in
    subst P none holds

-- what holds of numbers 0 and 1 holds of each number below 2
pub below_two : (P : ℕ → Type 0) → P 0 → P 1 → (k : ℕ) → k < 2 → P k
below_two P first second k below =
    elim (cases_lt k 1) [
      | inl less ↦ below_one P first k less
      | inr past ↦
          let one : 1 ≡ k = omega (arith, below, past) in
          subst P one second
    ]
