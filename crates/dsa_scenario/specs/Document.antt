-- A document: its caps, its capacity and its steps, and which faults it has.
use Rattle.std.specs.Prelude.{◌≡◌, ◌<◌, ◌≤◌, ℕ, ◌^◌, true, false, List, [], ◌∷◌, map, take, slice_get, codes, Option, Some}
use Rattle.std.specs.Prelude.{None, option_map, option_and_then, IsUtf8}
use Rattle.serde_json.specs.{Data.{Data, Items, no_items, item}, Find.{get, as_array}, Read.{read}}
use Rattle.dsa_regs.specs.{declared.Caps.{Caps}, Caps.{check_caps}}
use Rattle.dsa_scenario.specs.declared.actions.Action.{Action}
use Rattle.dsa_scenario.specs.declared.faults.ScenarioFault.{ScenarioFault}
use Rattle.dsa_scenario.specs.declared.faults.ScenarioFault.TheVariants.{NotJson, BadDocument, BadStep, BadCaps}
use Rattle.dsa_scenario.specs.declared.faults.ScenarioFault.TheVariants.{BadCapacity}
use Rattle.dsa_scenario.specs.{Fields.{◌>>=◌, whole_of}, Actions.{caps_of, action_of}}

-- the caps, the capacity and the step objects of a document (profile)
abbrev pub head_of : Data → Option (Caps × ℕ × Items)
head_of d = do
  caps ← option_and_then caps_of (get (codes "caps") d)
  capacity ← whole_of (2 ^ 64) (codes "capacity") d
  steps ← option_and_then as_array (get (codes "steps") d)
  Some (caps, capacity, steps)

-- the items of a JSON array, as a list
abbrev pub list_of_items : Items → List Data
list_of_items no_items = []
list_of_items (item d ds) = d ∷ list_of_items ds

-- the bytes are this JSON value
pub record IsJson (bytes : List ℕ) (document : Data) : Type 0 where
  pub utf8 : IsUtf8 bytes
  pub value : read bytes ≡ Some document

-- the bytes are a JSON value with these caps, this capacity and these step objects (profile)
pub record HasHead (bytes : List ℕ) (caps : Caps) (capacity : ℕ) (steps : List Data) : Type 0 where
  pub document : Data
  pub items : Items
  pub json : IsJson bytes document
  pub head : head_of document ≡ Some (caps, capacity, items)
  pub listed : list_of_items items ≡ steps

-- and its step objects ask these actions, one each in order (profile)
pub record IsDocument (bytes : List ℕ) (caps : Caps) (capacity : ℕ) (actions : List Action) : Type 0 where
  pub steps : List Data
  pub head : HasHead bytes caps capacity steps
  pub asked : map action_of steps ≡ map Some actions

-- a device of these caps can be made, with a history of this capacity (profile)
pub record IsOpenable (caps : Caps) (capacity : ℕ) : Type 0 where
  pub good : check_caps caps ≡ true
  pub small : capacity ≤ 2 ^ 20

-- ---- faults, in their order

-- the bytes are no JSON value
abbrev pub IsNoJson : List ℕ → Type 0
IsNoJson bytes = IsUtf8 bytes → read bytes ≡ None

-- the bytes are a JSON value, but it has no such caps, capacity or steps (profile)
pub record HasNoHead (bytes : List ℕ) : Type 0 where
  pub document : Data
  pub json : IsJson bytes document
  pub none : head_of document ≡ None

-- each object is a step object
abbrev pub AreSteps : List Data → Type 0
AreSteps steps = (actions : List Action) × (map action_of steps ≡ map Some actions)

-- object i is no step object, and all before it are (profile)
pub record IsBadAt (steps : List Data) (i : ℕ) : Type 0 where
  pub done : List Action
  pub before : map action_of (take i steps) ≡ map Some done
  pub here : option_map action_of (slice_get steps i) ≡ Some None

-- the fault says which object is the first that is no step object (profile)
abbrev pub IsFirstBad : List Data → ScenarioFault → Type 0
IsFirstBad steps (BadStep i) = IsBadAt steps i
IsFirstBad steps _ = ⊥

-- the fault says why no device can be made: none has the caps, or the capacity is above 2^20 (profile)
abbrev pub IsOpeningFault : Caps → ℕ → ScenarioFault → Type 0
IsOpeningFault caps capacity BadCaps = check_caps caps ≡ false
IsOpeningFault caps capacity BadCapacity = (check_caps caps ≡ true) × (2 ^ 20 < capacity)
IsOpeningFault caps capacity _ = ⊥

-- the first fault of these caps, this capacity and these objects: that of the objects comes first (profile)
abbrev pub IsFaultOfHead : Caps → ℕ → List Data → ScenarioFault → Type 0
IsFaultOfHead caps capacity steps (BadStep i) = IsBadAt steps i
IsFaultOfHead caps capacity steps fault = AreSteps steps × IsOpeningFault caps capacity fault

-- the bytes are a JSON value, and its caps, its capacity and its step objects have this fault (profile)
pub record HasFaultyHead (bytes : List ℕ) (fault : ScenarioFault) : Type 0 where
  pub caps : Caps
  pub capacity : ℕ
  pub steps : List Data
  pub head : HasHead bytes caps capacity steps
  pub bad : IsFaultOfHead caps capacity steps fault

-- the document has this fault, and none that comes before it (profile)
abbrev pub IsFaultOf : List ℕ → ScenarioFault → Type 0
IsFaultOf bytes NotJson = IsNoJson bytes
IsFaultOf bytes BadDocument = HasNoHead bytes
IsFaultOf bytes (BadStep i) = HasFaultyHead bytes (BadStep i)
IsFaultOf bytes BadCaps = HasFaultyHead bytes BadCaps
IsFaultOf bytes BadCapacity = HasFaultyHead bytes BadCapacity
IsFaultOf bytes _ = ⊥
