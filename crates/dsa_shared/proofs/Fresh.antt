-- Seats without receipts, made one after the other.
use Rattle.std.proofs.Common.{◌≡◌, ℕ, ◌+◌, ◌<◌, List, [], ◌∷◌, ◌++◌, length, get_or, inl, inr, ◌∙◌, subst, arith}
use Rattle.std.proofs.lemmas.{Bool.{cases_lt}, List.{get_or_append_left, get_or_push}}
use Rattle.dsa_shared.specs.Seat.{SeatLog, fresh}

-- and so with the seat of the next number
pub one_more : (seats : List SeatLog) (seat : SeatLog) (n : ℕ) → length seats ≡ n → seat ≡ fresh n
    → ((k : ℕ) (d : SeatLog) → k < n → get_or seats k d ≡ fresh k)
    → (k : ℕ) (d : SeatLog) → k < n + 1 → get_or (seats ++ seat ∷ []) k d ≡ fresh k
one_more seats seat n len here before k d lt =
    elim (cases_lt k n) [
      | inl below ↦ get_or_append_left seats (seat ∷ []) d k (omega (arith, len, below)) ∙ before k d below
      | inr past ↦
          let last : n ≡ k = omega (arith, past, lt) in
          let P : ℕ → Type 0 = λ i. get_or (seats ++ seat ∷ []) i d ≡ fresh i in
          subst P last (get_or_push seats seat d n len ∙ here)
    ]
