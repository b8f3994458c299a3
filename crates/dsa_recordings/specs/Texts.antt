-- Objects of JSON on lines, whose values are numbers, truth values and texts with nothing to escape.
use Rattle.std.specs.Prelude.{ℕ, List, [], ◌∷◌, ◌++◌, codes, flat_map}
use Rattle.serde_json.specs.{Data.{Data, number, boolean, string}, Written.{number_text}}
use Rattle.dsa_event_text.specs.Text.{truth_text}

-- a key and its value
abbrev pub Member : Type 0
Member = List ℕ × Data

abbrev pub value_text : Data → List ℕ
value_text (number n) = number_text n
value_text (boolean b) = truth_text b
value_text (string s) = codes "\"" ++ s ++ codes "\""
value_text _ = []

abbrev pub plain_member_text : Member → List ℕ
plain_member_text m = codes "\"" ++ m.0 ++ codes "\":" ++ value_text m.1

-- a member after another one
abbrev pub further_member : Member → List ℕ
further_member m = codes "," ++ plain_member_text m

abbrev pub members_text : List Member → List ℕ
members_text [] = []
members_text (m ∷ ms) = plain_member_text m ++ flat_map further_member ms

abbrev pub object_text : List Member → List ℕ
object_text ms = codes "{" ++ members_text ms ++ codes "}"

-- objects with one text before the first, and another before each other one
abbrev pub objects_text : (first next : List ℕ) → List (List Member) → List ℕ
objects_text first next [] = []
objects_text first next (ms ∷ mss) = first ++ object_text ms ++ objects_text next next mss
