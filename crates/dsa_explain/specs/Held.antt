-- The entries that a device holds, with where they stand.
use Rattle.std.specs.Prelude.{ℕ, suc, Bool, List, [], ◌∷◌, ◌++◌, map, filter, find, Option}
use Rattle.dsa_regs.specs.declared.{Caps.{Caps}, layout.ListUse.{ListUse}, Command.{Command}}
use Rattle.dsa_regs.specs.{Caps.{list_use}, Command.{number_of_command, scope_of}}
use Rattle.dsa_store.specs.{declared.entry.Entry.{Entry}, Content.{HeldEntry, Content}}
use Rattle.dsa_book.specs.{State.{State}, Work.{fate_row}, Commands.{is_in_scope}}
use Rattle.dsa_book.specs.declared.fate.{Fate.TheVariants.{Aborted}, FateRow.{FateRow}}
use Rattle.dsa_book.specs.declared.note.ActiveCommand.{ActiveCommand}
use Rattle.dsa_admin.specs.Admin.{is_awaited_by, is_waited_for}
use Rattle.dsa_explain.specs.declared.held.{ListedEntry.{ListedEntry}, Named.{Named, TheVariants.{Removed, Awaited}}}

-- the entry of an entry in a list that is for this
abbrev pub held_in_list : ListUse → HeldEntry → ListedEntry
held_in_list list pair = record { list = list; cell = pair.0; entry = pair.1 }

-- the cell and the entry
abbrev pub held_entry_of : ListedEntry → HeldEntry
held_entry_of held = (held.cell, held.entry)

-- the entries of the lists, where the first of these has that number
abbrev pub held_from : Caps → ℕ → Content → List ListedEntry
held_from caps number [] = []
held_from caps number (pairs ∷ lists) = map (held_in_list (list_use caps number)) pairs
    ++ held_from caps (suc number) lists

-- the entries of all lists, list by list and the front first
abbrev pub all_entries : State → List ListedEntry
all_entries s = held_from s.work.setup.caps 0 s.work.content

-- the first that a command waits for which is noted so, if one is
abbrev pub first_awaited : Option ActiveCommand → State → Option ListedEntry
first_awaited noted s = find (λ held. is_awaited_by noted held.entry) (all_entries s)

-- the first that the active command waits for
abbrev pub awaited_entry : State → Option ListedEntry
awaited_entry s = first_awaited s.active s

-- those that an abort or a reset ends
abbrev pub aborted_entries : State → Command → List ListedEntry
aborted_entries s command = filter (λ held. is_in_scope (scope_of command) held.entry) (all_entries s)

-- the row that an entry gets which the command ends
abbrev pub abort_row : Command → ListedEntry → FateRow
abort_row command held = fate_row (Aborted (number_of_command command)) (held_entry_of held)

-- ---- names, list by list

-- the names of those in a list that pass the test, the front first
abbrev pub names_where : (Entry → Bool) → List HeldEntry → List ℕ
names_where test pairs = map (λ pair. pair.1.name) (filter (λ pair. test pair.1) pairs)

-- a list, and the names of some of its entries
abbrev pub NamedList : Type 0
NamedList = ListUse × List ℕ

-- the list with these names, where there are any
abbrev pub named_list : ListUse → List ℕ → List NamedList
named_list list [] = []
named_list list (name ∷ names) = (list, name ∷ names) ∷ []

-- the lists with entries that pass, where the first of all has that number
abbrev pub lists_from : Caps → (Entry → Bool) → ℕ → Content → List NamedList
lists_from caps test number [] = []
lists_from caps test number (pairs ∷ lists) =
    named_list (list_use caps number) (names_where test pairs) ++ lists_from caps test (suc number) lists

-- the lists with entries that pass, in their order, each with the names of these
abbrev pub lists_where : (Entry → Bool) → State → List NamedList
lists_where test s = lists_from s.work.setup.caps test 0 s.work.content

-- the lists that lose something by an abort or a reset, each with the names that it loses
abbrev pub losses : State → Command → List NamedList
losses s command = lists_where (is_in_scope (scope_of command)) s

-- the lists with entries that a command waits for which is noted so, each with their names
abbrev pub awaited_lists : ActiveCommand → State → List NamedList
awaited_lists noted s = lists_where (is_waited_for noted) s

-- ---- which entries are named

-- those that an abort or a reset removes, or those that a command waits for which is noted so
abbrev pub is_named_by : Named → Entry → Bool
is_named_by (Removed command) entry = is_in_scope (scope_of command) entry
is_named_by (Awaited noted) entry = is_waited_for noted entry
