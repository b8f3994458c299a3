-- Step objects of which some count as if nothing had been seen of them.
use Rattle.std.specs.Prelude.{ℕ, Bool, true, false, ◌||◌, if◌then◌else◌, List, [], ◌∷◌, bytes_eq, codes, map, slice_get}
use Rattle.std.specs.Prelude.{Option, option_and_then, unwrap_or}
use Rattle.serde_json.specs.{Data.{Data, object, Members, no_members, member}, View.{view}}
use Rattle.dsa_scenario.specs.declared.actions.Action.{Action}
use Rattle.dsa_conform.specs.Seen.{Seen, observation_of}
use Rattle.dsa_conform.specs.declared.sights.Sights.{Sights}

-- the keys where a step object says what was seen
abbrev pub is_seen_key : List ℕ → Bool
is_seen_key key = bytes_eq key (codes "answer") || bytes_eq key (codes "zf")

abbrev pub bare_members : Members → Members
bare_members no_members = no_members
bare_members (member key value more) =
    if is_seen_key key then bare_members more else member key value (bare_members more)

-- the step object without what it says was seen
abbrev pub bare : Data → Data
bare (object members) = object (bare_members members)
bare other = other

abbrev pub bare_if : Bool → Data → Data
bare_if true step = bare step
bare_if false step = step

-- the step objects, without what was seen of those that are marked
abbrev pub bared : List Bool → List Data → List Data
bared [] steps = steps
bared (mark ∷ marks) [] = []
bared (mark ∷ marks) (step ∷ steps) = bare_if mark step ∷ bared marks steps

-- the step objects of a document, without what does not count as seen
abbrev pub steps_counted : Sights → List Data
steps_counted sights = bared sights.left_out.now (map view sights.head.now.steps.now)

-- whether the step of this number is marked
abbrev pub is_marked : List Bool → ℕ → Bool
is_marked marks number = unwrap_or (slice_get marks number) false

-- what the step object of this number asks, and what was seen of it
abbrev pub step_at : List Data → ℕ → Option (Action × Seen)
step_at steps number = option_and_then observation_of (slice_get steps number)
