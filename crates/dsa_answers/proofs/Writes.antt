-- What may be written, by the tests of a write.
use Rattle.std.proofs.Common.{◌≡◌, ◌⊎◌, inl, inr, ℕ, true, false, not, ◌&&◌, refl, ap}
use Rattle.std.proofs.lemmas.Bool.{and_left, and_right, eq-eqb}
use Rattle.std.specs.Prelude.{◌==◌}
use Rattle.dsa_regs.specs.declared.Phase.{Phase, TheVariants.{Off, On, Stopping}}
use Rattle.dsa_book.specs.State.{is_off}

pub is-off : (p : Phase) → is_off p ≡ true → p ≡ Off
is-off Off h = refl
is-off On h = absurd cc
is-off Stopping h = absurd cc

-- the size is not locked
pub free-size : (device : Phase) (n k : ℕ) → (n ≡ k) ⊎ (device ≡ Off) → (not (is_off device) && not (n == k)) ≡ false
free-size device n k (inl e) = and_right (not (is_off device)) (not (n == k)) (ap not (eq-eqb n k e))
free-size device n k (inr e) = and_left _ _ (ap (λ (p : Phase). not (is_off p)) e)
