-- What settling finds.
use Rattle.std.specs.Prelude.{◌≡◌, ℕ, ◌+◌, ◌<◌, ◌==◌, List, All, HoldsAt, length, take, slice_index_or, count_by}
use Rattle.std.specs.Prelude.{◌⊎◌, sum_by, Option, Some, IsSome, Contains}
use Rattle.std.specs.Option.{option_map_or, IsSomeAnd}
use Rattle.dsa_book.specs.{declared.event.{Step.{Step}, Actor.{Actor, TheVariants.{Admin}}}, Totals.{steps_of_actor}}
use Rattle.dsa_shared.specs.Compare.{DiffersFirstAt}
use Rattle.dsa_shared.specs.Seat.{SeatLog, client_of, engine_of_seat, number_of_seat, receipts_of}

-- one seat for each number below n, and no other
abbrev pub HasEach : {T : Type 0} → (T → ℕ) → ℕ → List T → Type 0
HasEach number n seats = All (λ s. number s < n) seats × ((k : ℕ) → k < n → count_by (λ s. k == number s) seats ≡ 1)

-- the receipts of each seat are its actor's steps of the history
abbrev pub AllMatch : {T : Type 0} → (T → Actor) → (T → List Step) → List Step → List T → Type 0
AllMatch actor receipts h seats = All (λ s. receipts s ≡ steps_of_actor h (actor s)) seats

-- the seats stand in the order of their numbers, and as many receipts of each as its place says are its actor's
-- steps of the history
abbrev pub AgreeSoFar : {T : Type 0} → (T → ℕ) → (T → Actor) → (T → List Step) → List Step → List T → List ℕ → Type 0
AgreeSoFar number actor receipts h seats places =
    (k : ℕ) → k < length seats → HoldsAt (λ s. (number s ≡ k)
    × (take (slice_index_or places k 0) (receipts s) ≡ steps_of_actor h (actor s))) seats k

-- some seat's receipts differ from its steps, first at i, and those of each seat of a lower number do not
abbrev pub FirstMismatch : {T : Type 0} → (T → ℕ) → (T → Actor) → (T → List Step) → List Step → List T → ℕ → Type 0
FirstMismatch {T} number actor receipts h seats i =
    (s : T) × Contains seats s × DiffersFirstAt (receipts s) (steps_of_actor h (actor s)) i
    × All (λ t. number t < number s → receipts t ≡ steps_of_actor h (actor t)) seats

-- one seat for each client, for each engine and for the administrator
pub record IsComplete (clients engines : List SeatLog) (admin : Option (List Step))
    (client_count engine_count : ℕ) : Type 0 where
  pub each_client : HasEach number_of_seat client_count clients
  pub each_engine : HasEach number_of_seat engine_count engines
  pub has_admin : IsSome admin

-- the receipts of all seats are their actors' steps of the history
pub record Match (h : List Step) (clients engines : List SeatLog) (admin : Option (List Step)) : Type 0 where
  pub client_receipts : AllMatch client_of receipts_of h clients
  pub engine_receipts : AllMatch engine_of_seat receipts_of h engines
  pub admin_receipts : admin ≡ Some (steps_of_actor h Admin)

-- the first seat whose receipts differ from its steps, clients first, then engines, then the administrator,
-- differs first at i
abbrev pub IsFirstMismatch : List Step → List SeatLog → List SeatLog → Option (List Step) → ℕ → Type 0
IsFirstMismatch h clients engines admin i =
    FirstMismatch number_of_seat client_of receipts_of h clients i
    ⊎ (AllMatch client_of receipts_of h clients × FirstMismatch number_of_seat engine_of_seat receipts_of h engines i)
    ⊎ (AllMatch client_of receipts_of h clients × AllMatch engine_of_seat receipts_of h engines
    × IsSomeAnd admin (λ r. DiffersFirstAt r (steps_of_actor h Admin) i))

-- what a list of steps has of one kind, over all seats
abbrev pub over_seats : (List Step → ℕ) → List SeatLog → List SeatLog → Option (List Step) → ℕ
over_seats f clients engines admin =
    sum_by (λ s. f s.receipts) clients + sum_by (λ s. f s.receipts) engines + option_map_or f admin 0
