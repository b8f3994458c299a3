-- What one step means outside a document.
use Rattle.std.specs.Prelude.{ℕ, if◌then◌else◌, List, [], ◌∷◌, Option, Some, None, is_some, option_map}
use Rattle.serde_json.specs.{Data.{Data}, View.{view}}
use Rattle.dsa_scenario.specs.declared.actions.StepKind.{StepKind}
use Rattle.dsa_scenario.specs.{Fields.{Row}, Actions.{kind_of, rows_of_kind}}
use Rattle.dsa_expand.specs.Steps.{Known, object_with, strict_at, strict_by}
use Rattle.dsa_expand.specs.declared.single.Meaning.{Meaning}
use Rattle.dsa_expand.specs.declared.single.Meaning.TheVariants as meaning

-- what a value means that is to be a step: itself, since it is of no kind of step; this value, in which each key of the
-- kind is strict; or nothing, since it is stuck at this key (profile)
pub data Sense : Type 0 where
  Itself : Sense
  Strictly : Data → Sense
  StuckAt : List ℕ → Sense

-- the same of a value of the program
abbrev pub sense_as : Meaning → Sense
sense_as meaning.Itself = Itself
sense_as (meaning.Strict value) = Strictly (view value)
sense_as (meaning.Nothing key) = StuckAt key.now

-- the first of these keys at which the step has nothing that is strict or means something strict
abbrev pub stuck_at : Known → Data → List Row → Option (List ℕ)
stuck_at known step [] = None
stuck_at known step (row ∷ rows) =
    if is_some (strict_at known step row.0) then stuck_at known step rows else Some row.0

-- by the strict value, if any, and by the key at which there is none
abbrev pub sense_with : Option Data → Option (List ℕ) → Sense
sense_with (Some strict) key = Strictly strict
sense_with None (Some key) = StuckAt key
sense_with None None = Itself

abbrev pub sense_by : Known → Data → Option StepKind → Sense
sense_by known step None = Itself
sense_by known step (Some kind) =
    sense_with (option_map object_with (strict_by known kind step)) (stuck_at known step (rows_of_kind kind))

-- what the value means, where so much is known of names
abbrev pub sense_of : Known → Data → Sense
sense_of known step = sense_by known step (kind_of step)
