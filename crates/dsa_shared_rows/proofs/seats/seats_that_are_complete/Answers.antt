use Rattle.dsa_shared_rows.proofs.seats.seats_that_are_complete.Goals as goal
use Rattle.std.proofs.Common.{ℕ, zero, suc, [], ◌∷◌, arith, refl}
use Rattle.dsa_shared.specs.{Seat.{SeatLog, number_of_seat}}
use Rattle.std.specs.Prelude.{◌≡◌, ◌<◌, ◌==◌, count_by, slice_index_or}
use Rattle.dsa_shared_rows.specs.Worked.{seat_of}

below_two : (k : ℕ) (d : SeatLog) → k < 2 → number_of_seat (slice_index_or (seat_of 1 [] ∷ seat_of 0 [] ∷ []) k d) < 2
below_two zero d lt = omega arith
below_two (suc zero) d lt = omega arith
below_two (suc (suc k)) d lt = absurd (omega (arith, lt))

two_once : (k : ℕ) → k < 2 → count_by (λ s. k == number_of_seat s) (seat_of 1 [] ∷ seat_of 0 [] ∷ []) ≡ 1
two_once zero lt = refl
two_once (suc zero) lt = refl
two_once (suc (suc k)) lt = absurd (omega (arith, lt))

below_one : (k : ℕ) (d : SeatLog) → k < 1 → number_of_seat (slice_index_or (seat_of 0 [] ∷ []) k d) < 1
below_one zero d lt = omega arith
below_one (suc k) d lt = absurd (omega (arith, lt))

one_once : (k : ℕ) → k < 1 → count_by (λ s. k == number_of_seat s) (seat_of 0 [] ∷ []) ≡ 1
one_once zero lt = refl
one_once (suc k) lt = absurd (omega (arith, lt))

pub returns-clause-complete : goal.returns-clause-complete
returns-clause-complete c = record { each_client = (below_two, two_once); each_engine = (below_one, one_once); has_admin = refl }

pub returns-clause-no_client : goal.returns-clause-no_client
returns-clause-no_client c is = omega (arith, is.each_client.1 0 (omega arith))

pub returns-clause-no_engine : goal.returns-clause-no_engine
returns-clause-no_engine c is = omega (arith, is.each_engine.1 0 (omega arith))
