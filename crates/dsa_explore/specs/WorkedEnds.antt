-- Endings, parties that never rest, and a script without parties.
use Rattle.dsa_book.specs.declared.event.Event.TheVariants as event
use Rattle.std.proofs.Common.{arith, refl}
use Rattle.std.specs.Prelude.{ℕ, ◌+◌, Bool, true, false, List, [], ◌∷◌, Some, None}
use Rattle.std.specs.declared.alloc.Global.{Global}
use Rattle.dsa_book.specs.State.{State, opening}
use Rattle.dsa_keys.specs.Parties.{Parties, World}
use Rattle.dsa_parties.specs.{declared.script.Script.{Script}, Standing.{Standing}, Worked.{vector_in}}
use Rattle.dsa_explore.specs.declared.found.{Ask.{Ask, TheVariants.{Submission, Act}}, Ending.{Ending}}
use Rattle.dsa_explore.specs.Rows.{labels_of}
use Rattle.dsa_explore.specs.WorkedSearch.{uneven_caps, no_op_named, world_holding}

-- ---- endings

-- this alone is left, entries are held or not, after so many moves
abbrev pub ending_with : Global → Ask → Bool → ℕ → Ending
ending_with memory ask holds steps = record {
  left = vector_in memory (ask ∷ []) (omega arith);
  holds_entries = holds;
  steps = steps;
}

-- nothing is left, and nothing held
abbrev pub ending_through : Global → ℕ → Ending
ending_through memory steps = record {
  left = vector_in memory [] (omega arith);
  holds_entries = false;
  steps = steps;
}

abbrev pub two_endings : Global → List Ending
two_endings memory = ending_with memory (Submission 4) false 2 ∷ ending_with memory (Act 3) true 7 ∷ []

-- ---- worlds

-- only a member is held, on the second engine
abbrev pub one_member : State
one_member = (world_holding ([] ∷ [] ∷ [] ∷ [] ∷ [] ∷ [] ∷ (no_op_named 2 (Some 0) ∷ []) ∷ []) None []).state

-- parties that stand there, where nothing is held
abbrev pub standing_world : Standing → World Standing
standing_world stand = record { places = stand; labels = labels_of []; state = opening uneven_caps }

-- ---- parties

-- one who polls, and counts the polls
abbrev pub polling_parties : Parties ℕ ℕ
polling_parties = record {
  offer = λ place seen move. Some (record { event = event.Poll; label = 9 });
  moved = λ place move sight. place + 1;
}

-- a script without entries, parties and engines
abbrev pub still_script : Global → Script
still_script memory = record {
  entries = vector_in memory [] (omega arith);
  clients = vector_in memory [] (omega arith);
  acts = vector_in memory [] (omega arith);
  administrators = vector_in memory [] (omega arith);
  engines = vector_in memory [] (omega arith);
  watches = vector_in memory [] (omega arith);
  fits = refl;
}

-- nobody stands anywhere
abbrev pub nowhere : Standing
nowhere = record { clients = []; administrators = []; came = [] }
