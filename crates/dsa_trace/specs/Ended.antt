-- The entries that a step ended.
use Rattle.std.specs.Prelude.{ℕ, ◌-◌, ◌*◌, ◌^◌, List, [], ◌∷◌, ◌++◌, Option, Some, None, Result, Ok, Err, if◌then◌else◌}
use Rattle.std.specs.Prelude.{codes, decimal, drop, flat_map, length}
use Rattle.dsa_regs.specs.{declared.{Command.{Command}, Fault.{Fault}}, Command.{command_label, command_of}}
use Rattle.dsa_book.specs.declared.answer.Reply.{Reply}
use Rattle.dsa_book.specs.declared.fate.{Fate.{Fate, TheVariants.{Completed, Aborted, Abandoned}}, FateRow.{FateRow}}
use Rattle.dsa_book.specs.Totals.{is_done, lost_by}
use Rattle.dsa_scenario.specs.declared.run.Record.{Record, TheVariants.{Stepped, Refused}}
use Rattle.dsa_trace.specs.Results.{status_member}

-- how many entries a step ended that was answered so
abbrev pub ended_count : Reply → ℕ
ended_count answer = if is_done answer then 1 else lost_by answer

-- the fates of those: of the fates after the step the last, so many as it ended (profile)
abbrev pub ended_rows : Record → List FateRow → List FateRow
ended_rows (Stepped step) fates = drop (length fates - ended_count step.reply) fates
ended_rows (Refused fault) fates = []

-- ---- texts (profile)

-- the name of the batch, where the entry was a member
abbrev pub parent_member : Option ℕ → List ℕ
parent_member None = codes ",\"parent\":null"
parent_member (Some name) = codes ",\"parent\":" ++ decimal name

-- the command that removed an entry
abbrev pub command_value : Result Command Fault → List ℕ
command_value (Ok command) = codes "\"" ++ command_label command ++ codes "\""
command_value (Err fault) = codes "null"

abbrev pub fate_members : Fate → List ℕ
fate_members (Completed status) = codes ",\"how\":\"completed\"" ++ status_member status
fate_members (Aborted command) =
    codes ",\"how\":\"aborted\",\"command\":" ++ command_value (command_of (command * 2 ^ 20))
fate_members Abandoned = codes ",\"how\":\"abandoned\""

-- the object of a fate, whose first bytes are these
abbrev pub fate_object : List ℕ → FateRow → List ℕ
fate_object before row =
    before ++ decimal row.name ++ parent_member row.parent ++ fate_members row.fate ++ codes "}"

-- the objects of fates, with commas between them
abbrev pub fate_objects : List FateRow → List ℕ
fate_objects [] = []
fate_objects (row ∷ rows) =
    fate_object (codes "{\"name\":") row ++ flat_map (fate_object (codes ",{\"name\":")) rows
