-- The conditions on rows of a table.
use Rattle.std.specs.Prelude.{◌==◌, ℕ, suc, ◌+◌, Bool, cond, List, [], ◌∷◌, drop, position, codes}
use Rattle.std.specs.Prelude.{bytes_eq, is_some}
use Rattle.std.specs.Prelude.{Option, Some, None, option_map}
use Rattle.std.specs.List.{list_any}
use Rattle.serde_json.specs.Data.{Data, Members, no_members, member}
use Rattle.serde_json.specs.Find.{get, as_object, as_str}
use Rattle.dsa_base.specs.Rows.{passes}
use Rattle.dsa_scenario.specs.Fields.{◌>>=◌, text_of}
use Rattle.dsa_plans.specs.Said.{items_in, each_onto, read_onto}
use Rattle.dsa_questions.specs.declared.question.Condition.{Condition, TheVariants.{Entry, Act, Wait, Removal}}
use Rattle.dsa_questions.specs.Words.{became_called, replied_called}

-- ---- labels

-- the number of the one label that is this text; a text that several have is nobody's
abbrev pub number_called : List (List ℕ) → List ℕ → Option ℕ
number_called labels text = do
  first ← position (λ label. bytes_eq label text) labels
  cond (list_any (λ label. bytes_eq label text) (drop (first + 1) labels)) None (Some first)

-- that of the text at the key
abbrev pub place_number : List (List ℕ) → List ℕ → Data → Option ℕ
place_number labels key d = text_of key d >>= number_called labels

-- ---- conditions

-- how many keys an object has
abbrev pub count_of_members : Members → ℕ
count_of_members no_members = 0
count_of_members (member key d members) = suc (count_of_members members)

-- an object with so many keys
abbrev pub has_keys : ℕ → Data → Bool
has_keys count d = passes (λ members. count_of_members members == count) (as_object d)

-- what becomes of an entry
abbrev pub entry_said : List (List ℕ) → Data → Option Condition
entry_said labels d = do
  label ← place_number labels (codes "entry") d
  word ← text_of (codes "is") d
  became ← became_called word
  Some (Entry label became)

-- what this act is answered, what its command waits for, or what it removes
abbrev pub act_said_by : List (List ℕ) → ℕ → Data → Option Data → Option Data → Option Condition
act_said_by labels act d (Some is) waits = as_str is >>= λ word. option_map (Act act) (replied_called word)
act_said_by labels act d None (Some waits) = option_map (Wait act) (place_number labels (codes "waits-for") d)
act_said_by labels act d None None = option_map (Removal act) (place_number labels (codes "removes") d)

abbrev pub act_named_at : List (List ℕ) → List (List ℕ) → Data → Option Condition
act_named_at labels acts d = place_number acts (codes "command") d >>= λ act.
    act_said_by labels act d (get (codes "is") d) (get (codes "waits-for") d)

-- a condition: an object with two keys, of which one says whose it is
abbrev pub condition_said : List (List ℕ) → List (List ℕ) → Data → Option Condition
condition_said labels acts d = cond (has_keys 2 d)
    (cond (is_some (get (codes "entry") d)) (entry_said labels d) (act_named_at labels acts d)) None

-- the conditions of which one is to come: those at `any`, which is the only key then, or this one
abbrev pub alternatives_by : Data → Option Data → Option (List Data)
alternatives_by d None = Some (d ∷ [])
alternatives_by d (Some any) = cond (has_keys 1 d) (items_in any) None

abbrev pub conditions_said : List (List ℕ) → List (List ℕ) → Data → Option (List Condition)
conditions_said labels acts d = alternatives_by d (get (codes "any") d) >>= λ ds.
    each_onto (read_onto (condition_said labels acts)) [] ds
