-- What a command waits for, and what it takes out of a list.
use Rattle.std.specs.Prelude.{◌≡◌, ℕ, ◌≤◌, Bool, true, false, not, cond, ◌&&◌, ◌||◌, nat_le, List, length, map, filter}
use Rattle.std.specs.Prelude.{Option, None, Some}
use Rattle.std.specs.List.{list_all}
use Rattle.dsa_base.specs.Rows.{passes}
use Rattle.dsa_regs.specs.declared.{Command.{Command}, Scope.{Scope, TheVariants.{Device, Pasid}}}
use Rattle.dsa_regs.specs.declared.{Deed.{Deed, TheVariants.{Disable}}, layout.ListUse.{ListUse}}
use Rattle.dsa_regs.specs.Command.{number_of_command, scope_of, deed_of, queues_in}
use Rattle.dsa_store.specs.{declared.entry.Entry.{Entry}, Content.{HeldEntry, Content, count_where}}
use Rattle.dsa_book.specs.declared.note.{BatchNote.{BatchNote}, ActiveCommand.{ActiveCommand}}
use Rattle.dsa_book.specs.declared.fate.{Fate.TheVariants.{Aborted}, FateRow.{FateRow}}
use Rattle.dsa_book.specs.{State.{Setup, State, has_queue}, Work.{fate_row}}
use Rattle.dsa_book.specs.Commands.{is_among, is_in_scope, takes_batch, is_awaited, is_bad_queues, may_come, check_of}
use Rattle.dsa_engines.specs.Engines.{EnginesState, notes_without, work}

-- whether a command of this deed keeps the number of the entries that it waits for; the end of a
-- disable is read from the numbers of its queues (profile)
abbrev pub is_counting : Deed → Bool
is_counting Disable = false
is_counting _ = true

-- the entries that keep an active command from its end (Intel DSA: a drain waits for what was
-- submitted before it; the rest is the profile's)
abbrev pub is_waited_for : ActiveCommand → Entry → Bool
is_waited_for active entry = is_awaited (deed_of active.command) (scope_of active.command) active.mark entry

-- whether the command that is active, if there is one, waits for the entry (profile)
abbrev pub is_awaited_by : Option ActiveCommand → Entry → Bool
is_awaited_by active entry = passes (λ active. is_waited_for active entry) active

-- whether a scope is one of queues: the device with all of them, or those that it names (profile)
abbrev pub names_queues : Scope → Bool
names_queues (Pasid pasid) = false
names_queues _ = true

-- whether such a scope has the queue (profile)
abbrev pub names_queue : Scope → ℕ → Bool
names_queue Device queue = true
names_queue scope queue = is_among (queues_in scope) queue

-- the active command, and the number that is kept with it (profile)
pub record Watch : Type 0 where
  pub active : Option ActiveCommand
  pub awaited : ℕ

-- whether the entry is one that the number of the active command counts: a disable keeps none (profile)
abbrev pub is_watched : ActiveCommand → Entry → Bool
is_watched active entry = is_counting (deed_of active.command) && is_waited_for active entry

-- the same of the command that is active, if there is one (profile)
abbrev pub is_counted_by : Watch → Entry → Bool
is_counted_by watch entry = passes (λ active. is_watched active entry) watch.active

-- what is kept of the active command agrees with the lists: its number is that of the held entries
-- which it counts, and its mark is a name that was given or is the next one (profile)
pub record IsAwaiting (watch : Watch) (next_name : ℕ) (content : Content) : Type 0 where
  pub counts : (active : ActiveCommand) → watch.active ≡ Some active
      → watch.awaited ≡ count_where (is_watched active) content
  pub mark : (active : ActiveCommand) → watch.active ≡ Some active → active.mark ≤ next_name

-- the command is about the entry
abbrev pub is_meant : Command → HeldEntry → Bool
is_meant command pair = is_in_scope (scope_of command) pair.1

-- the command is not about the entry
abbrev pub is_spared : Command → HeldEntry → Bool
is_spared command pair = not (is_in_scope (scope_of command) pair.1)

-- the row of an entry that the command takes out (profile)
abbrev pub row_of_abort : Command → Entry → FateRow
row_of_abort command entry = record {
  name = entry.name;
  parent = entry.parent;
  fate = Aborted (number_of_command command);
}

-- the rows of what an abort takes out of a list (profile)
abbrev pub rows_of_abort : Command → List HeldEntry → List FateRow
rows_of_abort command xs = map (fate_row (Aborted (number_of_command command))) (filter (is_meant command) xs)

-- the notes after the command took its entries out of a list: that of an engine goes with a
-- well-formed Batch in progress there (profile)
abbrev pub notes_left : Setup → Scope → ListUse → List HeldEntry → List (Option BatchNote) → List (Option BatchNote)
notes_left setup scope from xs notes = cond (takes_batch setup scope xs) (notes_without from notes) notes

-- no queue is named, or one that the device does not have (profile)
abbrev pub names_bad_queue : Setup → List ℕ → Bool
names_bad_queue setup named = nat_le (length named) 0 || not (list_all (has_queue setup) named)

-- what a command sees and changes: the queues, what the engines keep, the entries, the rows, and
-- the active command (profile)
abbrev pub state : Setup → EnginesState → Content → List FateRow → Option ActiveCommand → State
state setup engines_state content fates active =
    record { work = work setup engines_state content fates; active = active }

-- nothing but another active command refuses it
pub record IsUnrefused (setup : Setup) (deed : Deed) (scope : Scope) : Type 0 where
  pub known : is_bad_queues setup scope ≡ false
  pub ready : may_come setup deed scope ≡ true
  pub checked : check_of setup deed scope ≡ None
