-- Keys that come more than once in one object of a text.
use Rattle.std.specs.Prelude.{◌++◌, ◌==◌, ◌∷◌, if◌then◌else◌, ℕ, Bool, List, [], codes, bytes_eq}
use Rattle.std.specs.Prelude.{Option, Some, None, option_and_then}
use Rattle.std.specs.{Borrow.{Bor}, BTreeSet.{BTreeSet, contains_by}, List.{count_by}}
use Rattle.std.specs.{Ordering.{nat_cmp}, Cmp.Lexicographic.{slice_cmp}}
use Rattle.json.specs.{Json.{Json, Members}, Find.{get, at, as_object}, Strict.{keys}}

-- the keys of an object, each as often as it stands there
abbrev pub member_keys : Option Members → List (List ℕ)
member_keys None = []
member_keys (Some ms) = keys ms

-- those of a value that stands in the text, if one does
abbrev pub keys_written : Option Json → List (List ℕ)
keys_written written = member_keys (option_and_then as_object written)

-- the caps of a document, and item i of its steps, as they stand in the text
abbrev pub caps_written : Option Json → Option Json
caps_written written = option_and_then (get (codes "caps")) written

abbrev pub step_written : Option Json → ℕ → Option Json
step_written written i = option_and_then (at i) (option_and_then (get (codes "steps")) written)

-- how often the key stands among these
abbrev pub how_often : List (List ℕ) → List ℕ → ℕ
how_often keys key = count_by (λ other. bytes_eq other key) keys

-- the keys that come for the second time, where these stand before them
abbrev pub again_after : List (List ℕ) → List (List ℕ) → List (List ℕ)
again_after before [] = []
again_after before (key ∷ keys) =
    (if how_often before key == 1 then key ∷ [] else []) ++ again_after (before ++ key ∷ []) keys

-- the keys that come more than once, each once, in the order in which they come again
abbrev pub keys_again : List (List ℕ) → List (List ℕ)
keys_again keys = again_after [] keys

-- the set has this text
abbrev pub has_text : BTreeSet (Bor (List ℕ)) → List ℕ → Bool
has_text set text = contains_by (λ other. slice_cmp nat_cmp text other.now) set
