use Rattle.dsa_shared_rows.proofs.seats.seats_at_first.Goals as goal
use Rattle.std.proofs.Common.{◌≡◌, ℕ, ◌<◌, zero, suc, [], ◌∷◌, ap, arith, length, refl, slice_index_or}
use Rattle.dsa_shared.specs.Seat.{SeatLog, fresh}
use Rattle.dsa_shared_rows.specs.Worked.{seat_of}

-- each has its number
numbered : (k : ℕ) (d : SeatLog) → k < 2 → slice_index_or (seat_of 0 [] ∷ seat_of 1 [] ∷ []) k d ≡ fresh k
numbered zero d lt = refl
numbered (suc zero) d lt = refl
numbered (suc (suc k)) d lt = absurd (omega (arith, lt))

pub returns-clause-two : goal.returns-clause-two
returns-clause-two c = (refl, numbered)

pub returns-clause-numbers : goal.returns-clause-numbers
returns-clause-numbers c is = omega (arith, ap (λ (s : SeatLog). s.number) (is.1 1 (fresh 0) (omega arith)))

pub returns-clause-receipts : goal.returns-clause-receipts
returns-clause-receipts c is = omega (arith, ap (λ (s : SeatLog). length s.receipts) (is.1 1 (fresh 0) (omega arith)))
