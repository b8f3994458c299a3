-- What is Stopping, and by which command.
use Rattle.std.specs.Prelude.{◌≡◌, ℕ, Bool, true, false, Option, Some, None}
use Rattle.dsa_regs.specs.declared.{Phase.{Phase, TheVariants.{Stopping}}, Scope.{Scope, TheVariants.{Device}}}
use Rattle.dsa_regs.specs.{declared.Deed.{Deed, TheVariants.{Disable}}, Command.{scope_of, deed_of, queues_in}}
use Rattle.dsa_book.specs.Commands.{is_among}
use Rattle.dsa_book.specs.{declared.note.ActiveCommand.{ActiveCommand}, State.{Setup, State, phase_at}}

-- whether the device or a queue waits for the end of a disable
abbrev pub is_stopping : Phase → Bool
is_stopping Stopping = true
is_stopping _ = false

-- whether the command disables the device (profile)
abbrev pub stops_device : Deed → Scope → Bool
stops_device Disable Device = true
stops_device _ _ = false

-- whether it disables the queue (profile)
abbrev pub stops_queue : Deed → Scope → ℕ → Bool
stops_queue Disable Device q = true
stops_queue Disable scope q = is_among (queues_in scope) q
stops_queue _ _ q = false

-- whether the active command passes, where there is one
abbrev pub is_active_command : (Deed → Scope → Bool) → Option ActiveCommand → Bool
is_active_command test None = false
is_active_command test (Some active) = test (deed_of active.command) (scope_of active.command)

-- what is Stopping is what the active command disables (profile)
pub record StopsByCommand (s : State) : Type 0 where
  pub device : is_stopping s.work.setup.device ≡ true → is_active_command stops_device s.active ≡ true
  pub queues : (q : ℕ) → is_stopping (phase_at s.work.setup q) ≡ true
      → is_active_command (λ deed scope. stops_queue deed scope q) s.active ≡ true

-- neither the device nor a queue is Stopping (profile)
pub record IsAtRest (setup : Setup) : Type 0 where
  pub device : is_stopping setup.device ≡ false
  pub queues : (q : ℕ) → is_stopping (phase_at setup q) ≡ false
