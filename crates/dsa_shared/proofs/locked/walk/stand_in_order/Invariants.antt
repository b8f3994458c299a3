use Rattle.dsa_shared.proofs.locked.walk.stand_in_order.Given as goal
use Rattle.std.proofs.Common.{◌≡◌, ℕ, ◌<◌, HoldsAt}

abbrev pub invariant-loop-number : goal.invariant-loop-number
invariant-loop-number g l = (k : ℕ) → k < l.number → HoldsAt (λ s. g.T.Numbered.number s ≡ k) l.seats k
