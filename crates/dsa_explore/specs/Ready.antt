-- Devices that are ready for a move, and moves that cannot be made.
use Rattle.std.specs.Prelude.{◌≡◌, ◌⊎◌, ℕ, ◌+◌, ◌≤◌, ◌==◌, Bool, length, Option, Some}
use Rattle.dsa_book.specs.declared.{event.Event.{Event}, answer.Reply.{Reply}}
use Rattle.dsa_book.specs.{State.{State}, Machine.{next}}
use Rattle.dsa_device.specs.Running.{Running}
use Rattle.dsa_keys.specs.Parties.{World, world_after}
use Rattle.dsa_parties.specs.{Standing.{Standing}, declared.script.Script.{Script}, Offers.{parties_of}}
use Rattle.dsa_explore.specs.declared.{walked.Walked.{Walked}, stored.Try.{Try}}
use Rattle.dsa_explore.specs.Search.{queue_taken_from}

-- the history has no room for one more step
abbrev pub is_filled : Running → Bool
is_filled d = length d.history == d.capacity

-- the history has so much room in all, and at most so many steps
pub record HasRoomLeft (steps room : ℕ) (walked : Walked) : Type 0 where
  pub few : length walked.machine.device.history ≤ steps
  pub room_is : walked.machine.device.capacity ≡ room

-- one step more is stored at most
pub record IsOneMore (old new : Running) : Type 0 where
  pub few : length new.history ≤ length old.history + 1
  pub same_room : new.capacity ≡ old.capacity

-- each name that was given has a label, and the next one may have
abbrev pub HasLabels : Walked → Type 0
HasLabels walked = (length walked.labels.items ≡ walked.machine.device.state.work.setup.next_name)
    ⊎ (length walked.labels.items ≡ walked.machine.device.state.work.setup.next_name + 1)

-- the event has no reply there that takes an entry from this queue, or from none
abbrev pub CannotFollow : State → Event → Option ℕ → Type 0
CannotFollow s event queue = (t : State) (reply : Reply) → next s event reply ≡ Some t
    → queue_taken_from reply ≡ queue → ⊥

-- so has the move
abbrev pub CannotMake : Script → World Standing → Try → Type 0
CannotMake script w tried = (v : World Standing) (reply : Reply)
    → world_after (parties_of script) w tried.by reply ≡ Some v → queue_taken_from reply ≡ tried.queue → ⊥
