-- What is so where the parties stand, and in the state of their device: by the key of that state.
use Rattle.std.specs.Prelude.{ℕ, ◌==◌, Bool, true, false, not, ◌&&◌, ◌||◌, nat_le, List, [], length, flat_map}
use Rattle.std.specs.Prelude.{get_or, is_none, slice_index_or}
use Rattle.std.specs.List.{list_any}
use Rattle.dsa_regs.specs.declared.Phase.{Phase, TheVariants.{Off, On, Stopping}}
use Rattle.dsa_book.specs.State.{has_queue, is_off, is_on, phase_at}
use Rattle.dsa_keys.specs.Key.{Key, LabelledEntry}
use Rattle.dsa_parties.specs.{declared.script.Script.{Script}, Standing.{Standing, turn_of, next_act}}
use Rattle.dsa_formulas.specs.declared.formula.Being.{Being, TheVariants.{Held, Waiting}}
use Rattle.dsa_formulas.specs.declared.formula.Fact.{Fact, TheVariants.{Came, Entry, Queue, Filled}}
use Rattle.dsa_formulas.specs.declared.formula.Fact.TheVariants.{Device, Client, Administrator}

-- the device or a queue is in this phase
abbrev pub is_in_phase : Phase → Phase → Bool
is_in_phase Off phase = is_off phase
is_in_phase On phase = is_on phase
is_in_phase Stopping phase = not (is_off phase || is_on phase)

-- all held entries, list by list
abbrev pub entries_in : Key → List LabelledEntry
entries_in k = flat_map (λ list. list) k.lists

-- a held entry waits while it is in its queue: it does not run, and was not fetched
abbrev pub is_being : Being → LabelledEntry → Bool
is_being Held entry = true
is_being Waiting entry = not entry.running && not entry.member

-- the entry has the label, and is held or waits
abbrev pub is_found_so : ℕ → Being → LabelledEntry → Bool
is_found_so label being entry = (entry.label == label) && is_being being entry

-- what is so where the parties stand, in a state with this key
abbrev pub is_so : Script → Standing → Key → Fact → Bool
is_so script stand k (Came watch) = get_or stand.came watch false
is_so script stand k (Entry label being) = list_any (is_found_so label being) (entries_in k)
is_so script stand k (Queue queue phase) = has_queue k.setup queue && is_in_phase phase (phase_at k.setup queue)
is_so script stand k (Filled queue least) =
    has_queue k.setup queue && nat_le least (length (slice_index_or k.lists queue []))
is_so script stand k (Device phase) = is_in_phase phase k.setup.device
is_so script stand k (Client client) = is_none (turn_of script stand client)
is_so script stand k (Administrator administrator) = is_none (next_act script stand administrator)
