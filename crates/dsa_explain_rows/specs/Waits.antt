-- What is told of a wait.
use Rattle.std.specs.Prelude.{ℕ, List, map, Option, option_map, option_and_then}
use Rattle.dsa_regs.specs.declared.{Command.{Command}, layout.ListUse.{ListUse}}
use Rattle.dsa_book.specs.declared.event.Step.{Step}
use Rattle.dsa_store.specs.Content.{HeldEntry}
use Rattle.dsa_worked.specs.Setup.{state_after}
use Rattle.dsa_explain.specs.declared.{awaiting.WaitReason.{WaitReason}, held.ListedEntry.{ListedEntry}}
use Rattle.dsa_explain.specs.{Held.{aborted_entries, awaited_entry}, Wait.{wait_of_active, wait_reason}}
use Rattle.dsa_explain_rows.specs.After.{told_after}

-- the cell and the entry of an entry, in this list
abbrev pub held_as : ListUse → HeldEntry → ListedEntry
held_as list pair = record { list = list; cell = pair.0; entry = pair.1 }

-- an entry by its name, and its list
abbrev pub name_and_list : ListedEntry → ℕ × ListUse
name_and_list held = (held.entry.name, held.list)

-- the first entry that the active command waits for after these steps
abbrev pub awaited_after : List Step → Option (Option (ℕ × ListUse))
awaited_after = told_after (λ s. option_map name_and_list (awaited_entry s))

-- the entries that this command would abort after these steps
abbrev pub lost_after : Command → List Step → Option (List (ℕ × ListUse))
lost_after command = told_after (λ s. map name_and_list (aborted_entries s command))

-- how many entries are waited for, and the first by its name and its list
abbrev pub numbers : WaitReason → ℕ × ℕ × ListUse
numbers wait = (wait.awaited, wait.first.entry.name, wait.first.list)

-- what the command would wait for after these steps, if it would
abbrev pub wait_after : List Step → Command → Option (ℕ × ℕ × ListUse)
wait_after steps command = option_and_then (λ s. option_map numbers (wait_reason s command)) (state_after steps)

-- and what the active one waits for
abbrev pub active_after : List Step → Option (ℕ × ℕ × ListUse)
active_after steps = option_and_then (λ s. option_map numbers (wait_of_active s)) (state_after steps)
