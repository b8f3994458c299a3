use Rattle.dsa_shared.proofs.locked.walk.have_ended.Given as goal
use Rattle.std.proofs.Common.{◌≡◌, ℕ, ◌<◌, HoldsAt, get_or, length}

abbrev pub invariant-loop-number : goal.invariant-loop-number
invariant-loop-number g l = (k : ℕ) → k < l.number
    → HoldsAt (λ s. get_or l.places k 0 ≡ length (g.T.Numbered.receipts s)) l.seats k
