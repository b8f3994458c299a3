-- What a document varies, and the documents that it stands for.
use Rattle.std.specs.Prelude.{◌<◌, ◌≤◌, ℕ, ◌*◌, ◌/◌, ◌%◌, ◌&&◌, ⊤, Bool, is_some, nat_le, cond, List, [], ◌∷◌}
use Rattle.std.specs.Prelude.{length, get_or, codes, Option, Some, None}
use Rattle.std.specs.List.{list_all}
use Rattle.serde_json.specs.{Data.{Data, null}, Find.{get, as_array}}
use Rattle.dsa_scenario.specs.{Fields.{◌>>=◌, text_of}, Document.{list_of_items}}
use Rattle.dsa_family.specs.Places.{keys_of_path, set_at_place}

-- a place, by its path, and the values that it takes
abbrev pub Varied : Type 0
Varied = List ℕ × List Data

-- a place and the value that it has in one world
abbrev pub Chosen : Type 0
Chosen = List ℕ × Data

-- ---- reading

abbrev pub with_values : List ℕ → List Data → Option Varied
with_values path [] = None
with_values path (d ∷ ds) = Some (path, d ∷ ds)

-- an object of `vary`: a text at `at`, and an array with a value at `values` (profile)
abbrev pub varied_said : Data → Option Varied
varied_said d = do
  path ← text_of (codes "at") d
  values ← get (codes "values") d >>= as_array
  with_values path (list_of_items values)

-- all of them
abbrev pub all_said : List Data → Option (List Varied)
all_said [] = Some []
all_said (d ∷ ds) = do
  first ← varied_said d
  others ← all_said ds
  Some (first ∷ others)

-- ---- worlds

-- how many worlds there are: one for each combination of values
abbrev pub worlds_of : List Varied → ℕ
worlds_of [] = 1
worlds_of (axis ∷ axes) = length axis.1 * worlds_of axes

-- what world k has at each place: the values of the last one vary fastest (profile)
abbrev pub chosen_in : List Varied → ℕ → List Chosen
chosen_in [] k = []
chosen_in (axis ∷ axes) k =
    (axis.0, get_or axis.1 (k / worlds_of axes % length axis.1) null) ∷ chosen_in axes k

-- the document with these values, of which each is set after those before it
abbrev pub with_chosen : List Chosen → Data → Option Data
with_chosen [] d = Some d
with_chosen (choice ∷ choices) d =
    set_at_place (keys_of_path choice.0) choice.1 d >>= λ changed. with_chosen choices changed

-- the document of world k; none where an earlier value took away a later place (profile)
abbrev pub world_of_family : Data → List Varied → ℕ → Option Data
world_of_family base axes k = with_chosen (chosen_in axes k) base

-- ---- faults of `vary`

-- the document has the place
abbrev pub has_place : Data → Varied → Bool
has_place base axis = is_some (set_at_place (keys_of_path axis.0) null base)

-- where the document has all these places, and there are at most 65,536 worlds
abbrev pub if_fit : Data → List Varied → Option (List Varied)
if_fit base axes = cond (list_all (has_place base) axes && nat_le (worlds_of axes) 65536) (Some axes) None

-- what `vary` says of the document without it; none where it has a fault (profile)
abbrev pub axes_said : Data → Data → Option (List Varied)
axes_said vary base = do
  items ← as_array vary
  axes ← all_said (list_of_items items)
  if_fit base axes

-- each place takes some value
abbrev pub HaveValues : List Varied → Type 0
HaveValues [] = ⊤
HaveValues (axis ∷ axes) = (0 < length axis.1) × HaveValues axes

-- and there are at most 65,536 worlds
abbrev pub AreFewWorlds : List Varied → Type 0
AreFewWorlds axes = HaveValues axes × (worlds_of axes ≤ 65536)
