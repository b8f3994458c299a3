-- Numbers and sets of numbers in JSON.
use Rattle.std.specs.Prelude.{ℕ, ◌+◌, ◌-◌, ◌^◌, nat_le, if◌then◌else◌, List, [], ◌∷◌, Option, Some, None}
use Rattle.std.specs.Prelude.{option_and_then}
use Rattle.std.specs.Int.Bits.{bit_or}
use Rattle.serde_json.specs.{Data.{Data, Members, no_members, member}, Find.{as_number, as_u64, as_object}}
use Rattle.dsa_scenario.specs.Fields.{◌>>=◌, below_limit}

-- a whole number without sign
abbrev pub whole_in : Data → Option ℕ
whole_in d = option_and_then as_u64 (as_number d)

-- such a number below the limit
abbrev pub number_below : ℕ → Data → Option ℕ
number_below limit d = whole_in d >>= below_limit limit

-- what is read there, or where nothing stands there the default
abbrev pub or_default : {A : Type 0} → A → (Data → Option A) → Option Data → Option A
or_default default reading None = Some default
or_default default reading (Some d) = reading d

-- ---- sets

-- the place of a number in a set of so many places, the first of which is of this number
abbrev pub place_in_set : (first size : ℕ) → Data → Option ℕ
place_in_set first size d = number_below (first + size) d >>= λ n. if nat_le first n then Some (n - first) else None

-- these numbers are put into the set too: bit k is the one at place k (profile)
abbrev pub set_onto : (first size set : ℕ) → List Data → Option ℕ
set_onto first size set [] = Some set
set_onto first size set (d ∷ ds) = place_in_set first size d >>= λ k. set_onto first size (bit_or set (2 ^ k)) ds

-- the set of these numbers; none where one of them has no place in it
abbrev pub set_of : (first size : ℕ) → List Data → Option ℕ
set_of first size ds = set_onto first size 0 ds

-- ---- objects

-- the members of an object, in the order of their keys
abbrev pub pairs_in : Members → List (List ℕ × Data)
pairs_in no_members = []
pairs_in (member key d ms) = (key, d) ∷ pairs_in ms

abbrev pub pairs_of_object : Option Members → List (List ℕ × Data)
pairs_of_object None = []
pairs_of_object (Some ms) = pairs_in ms

abbrev pub pairs_of : Data → List (List ℕ × Data)
pairs_of d = pairs_of_object (as_object d)
