-- The lanes of engines, and the entries in them.
use Rattle.std.specs.Prelude.{ℕ, Bool, false, ◌==◌, ◌&&◌, List, [], ◌∷◌, ◌++◌, Option, Some, None, is_none, position, set}
use Rattle.dsa_chrome.specs.declared.lanes.{Lane.{Lane}, Work.{Work}}

-- a lane of this engine without an entry, and with this one
abbrev pub empty_lane : ℕ → Lane
empty_lane engine = record { engine = engine; work = None }

abbrev pub filled_lane : ℕ → Work → Lane
filled_lane engine work = record { engine = engine; work = Some work }

-- the lane is the engine's, and has no entry
abbrev pub is_free_for : ℕ → Lane → Bool
is_free_for engine lane = lane.engine == engine && is_none lane.work

-- the entry has this name
abbrev pub is_work_named : ℕ → Option Work → Bool
is_work_named name None = false
is_work_named name (Some work) = work.entry.name == name

-- the lane has the entry of this name
abbrev pub has_entry : ℕ → Lane → Bool
has_entry name lane = is_work_named name lane.work

-- a lane in the place of one, or behind all
abbrev pub put_at : Option ℕ → Lane → List Lane → List Lane
put_at (Some place) lane lanes = set lanes place lane
put_at None lane lanes = lanes ++ lane ∷ []

-- an entry comes into the first lane of its engine that has none, or into a new one
abbrev pub lanes_with : ℕ → Work → List Lane → List Lane
lanes_with engine work lanes = put_at (position (is_free_for engine) lanes) (filled_lane engine work) lanes
