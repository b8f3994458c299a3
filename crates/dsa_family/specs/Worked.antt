-- Documents of the worked rows.
use Rattle.std.specs.Prelude.{ℕ, List, [], ◌∷◌, codes}
use Rattle.serde_json.specs.Data.{Data, number, string, array, object, unsigned, item, no_items, member, no_members}
use Rattle.dsa_family.specs.declared.worlds.WorldShard.{WorldShard}
use Rattle.dsa_family.specs.Axes.{Varied}

-- the number as a value
abbrev pub whole_data : ℕ → Data
whole_data n = number (unsigned n)

-- at `a` an array of two numbers
abbrev pub two_numbers : (first second : ℕ) → Data
two_numbers first second =
    object (member (codes "a") (array (item (whole_data first) (item (whole_data second) no_items))) no_members)

-- the same, and at `b` a number
abbrev pub three_numbers : (first second third : ℕ) → Data
three_numbers first second third =
    object (member (codes "a") (array (item (whole_data first) (item (whole_data second) no_items)))
    (member (codes "b") (whole_data third) no_members))

-- the second number is 1 or 2, and `b` is 5, 6 or 7
abbrev pub two_axes : List Varied
two_axes = (codes "a/1", whole_data 1 ∷ whole_data 2 ∷ [])
    ∷ (codes "b", whole_data 5 ∷ whole_data 6 ∷ whole_data 7 ∷ []) ∷ []

-- worlds 1, 5, 9 and so on
abbrev pub second_of_four : WorldShard
second_of_four = record { number = 1; count = 4 }

-- a place with one value, as an object of `vary`
abbrev pub said_axis : List ℕ → Data → Data
said_axis path value =
    object (member (codes "at") (string path) (member (codes "values") (array (item value no_items)) no_members))
