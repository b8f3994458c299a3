-- What is told of the entries that are held: after a step, and when the steps are over.
use Rattle.std.specs.Prelude.{ℕ, List, ◌++◌, flat_map}
use Rattle.dsa_base.specs.Numbers.{numbers_below}
use Rattle.dsa_regs.specs.{declared.{Caps.{Caps}, layout.ListUse.{ListUse}}, Caps.{list_count, list_use}}
use Rattle.dsa_store.specs.Content.{HeldEntry, chain}
use Rattle.dsa_book.specs.State.{State}
use Rattle.dsa_event_text.specs.Text.{list_text}
use Rattle.dsa_trace.specs.declared.form.{Trace.{Trace}, Part.TheVariants.{Held, InList, HeldEnd}}
use Rattle.dsa_trace.specs.{Marks.{mark}, Columns.{marked}, Names.{list_names}}

-- the name of an entry, and the list that it stands in (profile)
abbrev pub held_line : Trace → ListUse → HeldEntry → List ℕ
held_line form list pair =
    marked form Held pair.1.name ++ (mark form InList ++ list_text list) ++ mark form HeldEnd

-- a line for each entry of the list of this number, the front first (profile)
abbrev pub list_lines : Trace → Caps → State → ℕ → List ℕ
list_lines form caps s number = flat_map (held_line form (list_use caps number)) (chain s.work.content number)

-- in a row, the names in the list of this number
abbrev pub list_column : Caps → State → ℕ → List ℕ
list_column caps s number = list_names (list_use caps number) (chain s.work.content number)

-- the names in each list, of which there are any (profile)
abbrev pub names_columns : Caps → State → List ℕ
names_columns caps s = flat_map (list_column caps s) (numbers_below (list_count caps))

-- a line for each entry that is held: in the queues, in progress on the engines, in their batches (profile)
abbrev pub held_lines : Trace → Caps → State → List ℕ
held_lines form caps s = flat_map (list_lines form caps s) (numbers_below (list_count caps))
