-- The mark of the active command.
use Rattle.std.specs.Prelude.{◌≡◌, ◌≤◌, Some}
use Rattle.dsa_book.specs.{declared.note.ActiveCommand.{ActiveCommand}, State.{State}}

-- the mark of the active command is a name that was given, or the next one (profile)
abbrev pub HasLawfulMark : State → Type 0
HasLawfulMark s = (active : ActiveCommand) → s.active ≡ Some active → active.mark ≤ s.work.setup.next_name
