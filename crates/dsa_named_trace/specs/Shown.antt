-- Of which entries a line of a trace shows the own names.
use Rattle.std.specs.Prelude.{ℕ, ◌==◌, ◌||◌, Bool, List, [], filter, flat_map, map}
use Rattle.std.specs.List.{list_any}
use Rattle.dsa_base.specs.Numbers.{numbers_below}
use Rattle.dsa_regs.specs.{declared.Caps.{Caps}, Caps.{list_count}}
use Rattle.dsa_store.specs.Content.{HeldEntry, chain}
use Rattle.dsa_book.specs.State.{State}
use Rattle.dsa_device.specs.Running.{Running}
use Rattle.dsa_scenario.specs.declared.run.Record.{Record}
use Rattle.dsa_chosen.specs.Selected.{is_about}
use Rattle.dsa_named.specs.Names.{Own}
use Rattle.dsa_trace.specs.declared.form.Trace.{Trace, TheVariants.{Changes}}

-- the names of the entries in the list of this number
abbrev pub names_in_list : State → ℕ → List ℕ
names_in_list s number = map (λ (held : HeldEntry). held.1.name) (chain s.work.content number)

-- those of all entries that are held, list by list
abbrev pub held_names : Caps → State → List ℕ
held_names caps s = flat_map (names_in_list s) (numbers_below (list_count caps))

-- the names that a line of this form lists of the device after the step; a row of changes is about the step alone
-- (profile)
abbrev pub listed_names : Trace → Running → List ℕ
listed_names Changes now = []
listed_names form now = held_names now.caps now.state

-- a line of a step with this record shows the own name of the entry of this name, where the device stands so after it
-- and these names are listed: the step is about the entry, or its name is one of those (profile)
abbrev pub is_traced : ℕ → Record → State → List ℕ → Bool
is_traced name entry s listed = is_about name entry s.work.fates || list_any (λ other. other == name) listed

-- the own names that the line shows, in the order in which they were given (profile)
abbrev pub shown_names : Trace → List Own → Record → Running → List Own
shown_names form names entry now = filter (λ own. is_traced own.0 entry now.state (listed_names form now)) names
