-- Seats that lack steps, and seats that lack none.
use Rattle.std.proofs.Common.{◌≡◌, ℕ, ◌<◌, zero, suc, [], ◌∷◌, ap, arith, length, refl, slice_index_or, subst}
use Rattle.std.specs.Prelude.{All}
use Rattle.dsa_book.specs.Totals.{steps_of_actor}
use Rattle.dsa_book.specs.declared.event.{Actor.{Actor}, Step.{Step}}
use Rattle.dsa_shared.specs.Compare.{DiffersFirstAt}
use Rattle.dsa_shared.specs.Seat.{SeatLog, client_of, engine_of_seat, number_of_seat, receipts_of}
use Rattle.dsa_shared.specs.Settle.{AllMatch, FirstMismatch}
use Rattle.dsa_shared_rows.specs.Worked.{fetch_of_engine, lacking_clients, lacking_engines, of_all_seats}
use Rattle.dsa_shared_rows.specs.Worked.{seat_of, taken_of_client, two_clients, two_engines}

-- what holds of both seats holds of each that is among them
of_both : (P : SeatLog → Type 0) (a b : SeatLog) → P a → P b
    → (k : ℕ) (s : SeatLog) → k < 2 → slice_index_or (a ∷ b ∷ []) k s ≡ s → P s
of_both P a b first second zero s lt at = subst P at first
of_both P a b first second (suc zero) s lt at = subst P at second
of_both P a b first second (suc (suc k)) s lt at = absurd (omega (arith, lt))

-- the seat's receipts differ first at i
abbrev Differs : (SeatLog → Actor) → ℕ → SeatLog → Type 0
Differs actor i s = DiffersFirstAt (receipts_of s) (steps_of_actor of_all_seats (actor s)) i

-- where neither of two seats differs there is no mismatch
no_mismatch : (actor : SeatLog → Actor) (a b : SeatLog)
    → ((i : ℕ) → Differs actor i a → ⊥) → ((i : ℕ) → Differs actor i b → ⊥)
    → (i : ℕ) → FirstMismatch number_of_seat actor receipts_of of_all_seats (a ∷ b ∷ []) i → ⊥
no_mismatch actor a b first second i is =
    of_both (λ s. Differs actor i s → ⊥) a b (first i) (second i) is.1.0 is.0 is.1.1 is.1.2 is.2

-- where seat 0 has the first of its two steps, and seat 1 has none, no mismatch is at 0: seat 0 comes before seat 1
none_at_0 : (actor : SeatLog → Actor) (step : Step)
    → length (steps_of_actor of_all_seats (actor (seat_of 0 (step ∷ [])))) ≡ 2
    → (Differs actor 0 (seat_of 0 (step ∷ [])) → ⊥)
    → FirstMismatch number_of_seat actor receipts_of of_all_seats (seat_of 1 [] ∷ seat_of 0 (step ∷ []) ∷ []) 0 → ⊥
none_at_0 actor step two alike is = of_both
    (λ s. Differs actor 0 s → All (λ t. number_of_seat t < number_of_seat s
    → receipts_of t ≡ steps_of_actor of_all_seats (actor t)) (seat_of 1 [] ∷ seat_of 0 (step ∷ []) ∷ []) → ⊥)
    (seat_of 1 []) (seat_of 0 (step ∷ []))
    (λ differs lower. omega (arith, two, ap length (lower 1 (seat_of 0 []) (omega arith) (omega arith))))
    (λ differs lower. alike differs) is.1.0 is.0 is.1.1 is.1.2 is.2 is.3

-- where seat 0 has the first of its steps and differs at 1, the mismatch is there
lowest_at_1 : (actor : SeatLog → Actor) (step : Step) → Differs actor 1 (seat_of 0 (step ∷ []))
    → FirstMismatch number_of_seat actor receipts_of of_all_seats (seat_of 1 [] ∷ seat_of 0 (step ∷ []) ∷ []) 1
lowest_at_1 actor step differs =
    (seat_of 0 (step ∷ []), (1, omega arith, refl), differs, λ k d lt below. absurd (omega (arith, below)))

-- the receipts of all clients are their steps
pub clients_match : AllMatch client_of receipts_of of_all_seats two_clients
clients_match zero d lt = refl
clients_match (suc zero) d lt = refl
clients_match (suc (suc k)) d lt = absurd (omega (arith, lt))

-- so there is no mismatch of these
pub no_mismatch_of_clients : (i : ℕ)
    → FirstMismatch number_of_seat client_of receipts_of of_all_seats two_clients i → ⊥
no_mismatch_of_clients = no_mismatch client_of _ _ (λ i differs. differs.1 refl) (λ i differs. differs.1 refl)

-- these lack a step
pub lacking_clients_differ : AllMatch client_of receipts_of of_all_seats lacking_clients → ⊥
lacking_clients_differ match_all = omega (arith, ap length (match_all 0 (seat_of 0 []) (omega arith)))

-- the first of them that does differs at 1
pub lowest_of_clients : FirstMismatch number_of_seat client_of receipts_of of_all_seats lacking_clients 1
lowest_of_clients = lowest_at_1 client_of (taken_of_client 0) (refl, λ same. grind (arith, same))

-- and not at 0
pub none_at_0_of_clients : FirstMismatch number_of_seat client_of receipts_of of_all_seats lacking_clients 0 → ⊥
none_at_0_of_clients = none_at_0 client_of (taken_of_client 0) refl (λ differs. differs.1 refl)

-- the same of engines
pub engines_match : AllMatch engine_of_seat receipts_of of_all_seats two_engines
engines_match zero d lt = refl
engines_match (suc zero) d lt = refl
engines_match (suc (suc k)) d lt = absurd (omega (arith, lt))

pub no_mismatch_of_engines : (i : ℕ)
    → FirstMismatch number_of_seat engine_of_seat receipts_of of_all_seats two_engines i → ⊥
no_mismatch_of_engines = no_mismatch engine_of_seat _ _ (λ i differs. differs.1 refl) (λ i differs. differs.1 refl)

pub lacking_engines_differ : AllMatch engine_of_seat receipts_of of_all_seats lacking_engines → ⊥
lacking_engines_differ match_all = omega (arith, ap length (match_all 0 (seat_of 0 []) (omega arith)))

pub lowest_of_engines : FirstMismatch number_of_seat engine_of_seat receipts_of of_all_seats lacking_engines 1
lowest_of_engines = lowest_at_1 engine_of_seat (fetch_of_engine 0) (refl, λ same. grind (arith, same))

pub none_at_0_of_engines : FirstMismatch number_of_seat engine_of_seat receipts_of of_all_seats lacking_engines 0 → ⊥
none_at_0_of_engines = none_at_0 engine_of_seat (fetch_of_engine 0) refl (λ differs. differs.1 refl)
