-- The names of entries in an array.
use Rattle.std.specs.Prelude.{ℕ, List, [], ◌∷◌, ◌++◌, codes, decimal, flat_map}
use Rattle.dsa_regs.specs.declared.layout.ListUse.{ListUse}
use Rattle.dsa_store.specs.Content.{HeldEntry}
use Rattle.dsa_event_text.specs.Text.{list_text}
use Rattle.dsa_trace.specs.declared.form.{Trace.{Trace, TheVariants.{Json}}, Part.{Part}}
use Rattle.dsa_trace.specs.declared.form.Part.TheVariants.{NamesEnd}
use Rattle.dsa_trace.specs.Marks.{mark}

-- a name behind a comma
abbrev pub further_name : HeldEntry → List ℕ
further_name pair = codes "," ++ decimal pair.1.name

-- the names of these entries in their order, with commas between them (profile)
abbrev pub entry_names_text : List HeldEntry → List ℕ
entry_names_text [] = []
entry_names_text (pair ∷ pairs) = decimal pair.1.name ++ flat_map further_name pairs

-- an array of the names behind its mark; a row has them elsewhere (profile)
abbrev pub names_array : Trace → Part → List HeldEntry → List ℕ
names_array Json part pairs = mark Json part ++ entry_names_text pairs ++ mark Json NamesEnd
names_array _ part pairs = []

-- in a row, behind a bar, a list with the names of the entries that it has, where it has any (profile)
abbrev pub list_names : ListUse → List HeldEntry → List ℕ
list_names list [] = []
list_names list (pair ∷ pairs) =
    (codes " | " ++ list_text list) ++ (codes " [" ++ decimal pair.1.name) ++ flat_map further_name pairs ++ codes "]"

-- the same also where it has none
abbrev pub bracketed_names : ListUse → List HeldEntry → List ℕ
bracketed_names list pairs =
    (codes " | " ++ list_text list) ++ codes " [" ++ entry_names_text pairs ++ codes "]"
