-- What callers know of the device under the lock.
use Rattle.std.specs.Prelude.{◌≡◌, ◌≤◌, ℕ, false, List, length, Some}
use Rattle.dsa_regs.specs.declared.Caps.{Caps}
use Rattle.dsa_book.specs.declared.{event.{Event.{Event}, Step.{Step}}, answer.Reply.{Reply}}
use Rattle.dsa_device.specs.Running.{Running, IsReplay, after_answer}
use Rattle.dsa_shared.specs.Seat.{SeatLog, with_receipt, with_step}

-- a device that the lock may keep: the replay of its history, which did not begin anew, of these capabilities and this
-- capacity (profile)
pub record IsUnderLock (caps : Caps) (capacity : ℕ) (d : Running) : Type 0 where
  pub not_anew : d.anew ≡ false
  pub replay : IsReplay d
  pub same_caps : d.caps ≡ caps
  pub same_capacity : d.capacity ≡ capacity

-- what is read of some device that the lock may keep (profile)
abbrev pub IsReadOf : {T : Type 0} → Caps → ℕ → (Running → T) → T → Type 0
IsReadOf caps capacity read value = (d : Running) × IsUnderLock caps capacity d × (value ≡ read d)

-- what some device that the lock may keep answers to the event, with as many steps in its history as the receipts
-- at least: it is not older than what the seat has seen (profile)
abbrev pub IsAnsweredFor : Caps → ℕ → List Step → Event → Reply → Type 0
IsAnsweredFor caps capacity receipts event reply =
    (d t : Running) × IsUnderLock caps capacity d × (length receipts ≤ length d.history)
    × (after_answer d event reply ≡ Some t)

-- a step by a numbered seat: so some device that the lock may keep answers, and the seat has the receipt (profile)
pub record IsSeatStep (caps : Caps) (capacity : ℕ) (old new : SeatLog) (event : Event) (reply : Reply) : Type 0 where
  pub answered : IsAnsweredFor caps capacity old.receipts event reply
  pub receipts : new ≡ with_receipt old event reply

-- the same by the administrator's seat (profile)
pub record IsAdminStep (caps : Caps) (capacity : ℕ) (old new : List Step) (event : Event) (reply : Reply) : Type 0 where
  pub answered : IsAnsweredFor caps capacity old event reply
  pub receipts : new ≡ with_step old event reply
