-- The labels of entries and of acts.
use Rattle.std.specs.Prelude.{ℕ, ◌+◌, ◌%◌, List, [], ◌∷◌, ◌++◌, length, map, codes, decimal, Option, Some, None}
use Rattle.std.specs.Prelude.{unwrap_or}
use Rattle.serde_json.specs.{Data.{Data}, Find.{get}}
use Rattle.dsa_base.specs.Numbers.{numbers_below}
use Rattle.dsa_scenario.specs.Fields.{◌>>=◌}
use Rattle.dsa_named.specs.Names.{own_text}
use Rattle.dsa_plans.specs.Said.{items_in}

-- the items of the array at the key, or none
abbrev pub items_or : List ℕ → Data → List Data
items_or key d = unwrap_or (get key d >>= items_in) []

-- what there is of each with its number, from this number on
abbrev pub numbered_from : {A : Type 0} → (ℕ → Data → List A) → ℕ → List Data → List A
numbered_from f n [] = []
numbered_from f n (d ∷ ds) = f n d ++ numbered_from f (n + 1) ds

-- the letter of the party with this number, from the first letter on; after the last they come again
abbrev pub letter_of : ℕ → ℕ → ℕ
letter_of first party = first + party % 26

-- its own text, or else the letter of its party and its place
abbrev pub label_by : ℕ → ℕ → ℕ → Option (List ℕ) → List ℕ
label_by first party place None = letter_of first party ∷ decimal place
label_by first party place (Some own) = own

-- the label of a step at this place of a party
abbrev pub step_label : ℕ → ℕ → ℕ → Data → List ℕ
step_label first party place d = label_by first party place (own_text d)

-- the label of a member of a batch with this label
abbrev pub member_text : List ℕ → ℕ → List ℕ
member_text label k = label ++ codes "/" ++ decimal k

-- the labels of a client's step and of its members
abbrev pub step_labels : ℕ → ℕ → Data → List (List ℕ)
step_labels party place d =
    let label = step_label 0x61 party place d in
    label ∷ map (member_text label) (numbers_below (length (items_or (codes "members") d)))

-- the labels of what a client submits
abbrev pub client_labels : ℕ → Data → List (List ℕ)
client_labels party d = numbered_from (step_labels party) 0 (items_or (codes "steps") d)

-- the label of an administrator's step
abbrev pub act_label : ℕ → ℕ → Data → List (List ℕ)
act_label party place d = step_label 0x41 party place d ∷ []

-- the labels of what an administrator does
abbrev pub administrator_labels : ℕ → Data → List (List ℕ)
administrator_labels party d = numbered_from (act_label party) 0 (items_or (codes "steps") d)

-- the labels of all entries, by the object `parties` (profile)
abbrev pub entry_labels : Data → List (List ℕ)
entry_labels d = numbered_from client_labels 0 (items_or (codes "clients") d)

-- the labels of all acts
abbrev pub act_labels : Data → List (List ℕ)
act_labels d = numbered_from administrator_labels 0 (items_or (codes "admins") d)
