-- A few entries that are held, and commands that wait for them.
use Rattle.std.specs.Prelude.{ℕ, false, List, [], ◌∷◌, map, Option, None, Some}
use Rattle.dsa_regs.specs.declared.{Command.{TheVariants.{DisableWq, DrainWq, DrainPasid}}}
use Rattle.dsa_store.specs.{declared.entry.Entry.{Entry}, Content.{HeldEntry, Content}}
use Rattle.dsa_book.specs.declared.note.ActiveCommand.{ActiveCommand}

-- an entry of that name, parent, queue and PASID, in the cell of its name
abbrev pub held_entry_by_name : ℕ → Option ℕ → ℕ → ℕ → HeldEntry
held_entry_by_name name parent queue pasid = (
  record { 0 = name },
  record {
    name = name;
    parent = parent;
    desc = record { pasid = pasid; flags = 0; op = 0; size = 0 };
    queue = queue;
    running = false;
  },
)

-- entries 1 and 3 wait in queue 0 and entry 2 in queue 1; an engine works on the batch 0 with its member 4
abbrev pub content : Content
content =
    (held_entry_by_name 1 None 0 5 ∷ held_entry_by_name 3 None 0 6 ∷ []) ∷ (held_entry_by_name 2 None 1 5 ∷ []) ∷
    (held_entry_by_name 0 None 0 5 ∷ []) ∷ [] ∷
    (held_entry_by_name 4 (Some 0) 0 5 ∷ []) ∷ [] ∷ []

-- those entries by name
abbrev pub by_name : List Entry
by_name = map (λ (pair : HeldEntry). pair.1)
    (held_entry_by_name 0 None 0 5 ∷ held_entry_by_name 1 None 0 5 ∷ held_entry_by_name 2 None 1 5
    ∷ held_entry_by_name 3 None 0 6 ∷ held_entry_by_name 4 (Some 0) 0 5 ∷ [])

-- a drain and a disable of queue 0, and a drain of PASID 5, each with that mark
abbrev pub drain_of_queue : ℕ → ActiveCommand
drain_of_queue mark = record { command = DrainWq (record { group = 0; mask = 1 }); mark = mark }

abbrev pub disable_of_queue : ℕ → ActiveCommand
disable_of_queue mark = record { command = DisableWq (record { group = 0; mask = 1 }); mark = mark }

abbrev pub drain_of_pasid : ℕ → ActiveCommand
drain_of_pasid mark = record { command = DrainPasid 5; mark = mark }
