-- What callers see of a seat.
use Rattle.std.specs.Prelude.{◌≡◌, ℕ, ◌<◌, List, [], length, slice_index_or}
use Rattle.dsa_regs.specs.{declared.Caps.{Caps}, Caps.{each_of}}
use Rattle.dsa_book.specs.declared.event.{Event.{Event}, Step.{Step}, Actor.{Actor, TheVariants.{Client, Engine}}}
use Rattle.dsa_book.specs.declared.answer.Reply.{Reply}
use Rattle.dsa_book.specs.Machine.{history_after}

-- the steps that a seat has receipts of, and its parts of the ledger
pub record Noted : Type 0 where
  pub parts : ℕ
  pub steps : List Step

-- a seat's number, and its receipts in order
pub record SeatLog : Type 0 where
  pub number : ℕ
  pub receipts : List Step

-- a seat that made no step yet
abbrev pub fresh : ℕ → SeatLog
fresh number = record { number = number; receipts = [] }

-- a seat for each number below n, in order, without receipts
abbrev pub AllFresh : ℕ → List SeatLog → Type 0
AllFresh n seats = (length seats ≡ n) × ((k : ℕ) (d : SeatLog) → k < n → slice_index_or seats k d ≡ fresh k)

-- the receipts after a step
abbrev pub with_step : List Step → Event → Reply → List Step
with_step receipts event reply = history_after receipts (record { event = event; reply = reply })

-- a seat with the receipt of one more step
abbrev pub with_receipt : SeatLog → Event → Reply → SeatLog
with_receipt seat event reply = record { number = seat.number; receipts = with_step seat.receipts event reply }

abbrev pub client_of : SeatLog → Actor
client_of seat = Client seat.number

abbrev pub engine_of_seat : SeatLog → Actor
engine_of_seat seat = Engine seat.number

abbrev pub number_of_seat : SeatLog → ℕ
number_of_seat seat = seat.number

abbrev pub receipts_of : SeatLog → List Step
receipts_of seat = seat.receipts

-- no capabilities
abbrev pub no_caps : Caps
no_caps = each_of 0
