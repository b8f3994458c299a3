-- What holds of each number below a small bound, and of each element of a short list.
use Rattle.std.proofs.Common.{◌<◌, ℕ, zero, suc, [], ◌∷◌, arith, inl, inr, subst}
use Rattle.dsa_base.specs.Lists.{In}
use Rattle.dsa_store.specs.Content.{HeldEntry}
use Rattle.dsa_laws.specs.Lists.{EachAt}

pub below_one : (P : ℕ → Type 0) → P 0 → (k : ℕ) → k < 1 → P k
below_one P none zero low = none
below_one P none (suc k) low = absurd (omega (arith, low))

pub below_two : (P : ℕ → Type 0) → P 0 → P 1 → (k : ℕ) → k < 2 → P k
below_two P none one zero low = none
below_two P none one (suc zero) low = one
below_two P none one (suc (suc k)) low = absurd (omega (arith, low))

pub in_one : (P : HeldEntry → Type 0) (x : HeldEntry) → P x → (y : HeldEntry) → In y (x ∷ []) → P y
in_one P x holds y (inl is) = subst P is holds
in_one P x holds y (inr none) = absurd none

pub in_two : (P : HeldEntry → Type 0) (x y : HeldEntry) → P x → P y → (z : HeldEntry) → In z (x ∷ y ∷ []) → P z
in_two P x y first second z (inl is) = subst P is first
in_two P x y first second z (inr (inl is)) = subst P is second
in_two P x y first second z (inr (inr none)) = absurd none

-- of the lists only the first has an entry
pub in_first : (P : ℕ → HeldEntry → Type 0) (x : HeldEntry) → P 0 x → EachAt P ((x ∷ []) ∷ [])
in_first P x holds zero y (inl is) = subst (P 0) is holds
in_first P x holds zero y (inr none) = absurd none
in_first P x holds (suc list) y inside = absurd inside
