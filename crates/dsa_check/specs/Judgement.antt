-- All faults of a document, in the order in which a run would tell each where no other came before it.
use Rattle.std.specs.Prelude.{◌≡◌, ◌⊎◌, ℕ, suc, ◌^◌, cond, nat_lt, List, [], ◌∷◌, ◌++◌, map, codes}
use Rattle.std.specs.Prelude.{Option, Some, None, option_and_then}
use Rattle.serde_json.specs.{Data.{Data, Items}, Find.{get, as_array}}
use Rattle.dsa_regs.specs.{declared.Caps.{Caps}, Caps.{check_caps}}
use Rattle.dsa_scenario.specs.declared.actions.Action.{Action}
use Rattle.dsa_scenario.specs.declared.faults.ScenarioFault.{ScenarioFault, TheVariants.{NotJson, BadDocument, BadStep}}
use Rattle.dsa_scenario.specs.declared.faults.ScenarioFault.TheVariants.{BadCaps, BadCapacity}
use Rattle.dsa_scenario.specs.{Fields.{whole_of}, Actions.{caps_of, action_of}}
use Rattle.dsa_scenario.specs.Document.{head_of, list_of_items, IsJson, IsNoJson, IsDocument, IsOpenable, IsFaultOf}
use Rattle.dsa_check.specs.declared.finding.Finding.{Finding}

-- ---- the parts of a document

abbrev pub caps_at : Data → Option Caps
caps_at d = option_and_then caps_of (get (codes "caps") d)

abbrev pub capacity_at : Data → Option ℕ
capacity_at d = whole_of (2 ^ 64) (codes "capacity") d

abbrev pub items_at : Data → Option Items
items_at d = option_and_then as_array (get (codes "steps") d)

abbrev pub list_of_optional_items : Option Items → List Data
list_of_optional_items None = []
list_of_optional_items (Some items) = list_of_items items

-- the items of `steps`, where that is an array
abbrev pub step_items_of : Data → List Data
step_items_of d = list_of_optional_items (items_at d)

-- ---- the faults of each part

-- one of the parts is missing or of another form
abbrev pub fault_of_head : Option (Caps × ℕ × Items) → List ScenarioFault
fault_of_head None = BadDocument ∷ []
fault_of_head (Some head) = []

abbrev pub head_faults : Data → List ScenarioFault
head_faults d = fault_of_head (head_of d)

-- item i asks nothing
abbrev pub fault_of_step : ℕ → Option Action → List ScenarioFault
fault_of_step i None = BadStep i ∷ []
fault_of_step i (Some action) = []

-- the items that ask nothing, of which the first has this number
abbrev pub bad_steps : ℕ → List Data → List ScenarioFault
bad_steps i [] = []
bad_steps i (d ∷ ds) = fault_of_step i (action_of d) ++ bad_steps (suc i) ds

abbrev pub caps_faults : Option Caps → List ScenarioFault
caps_faults None = []
caps_faults (Some caps) = cond (check_caps caps) [] (BadCaps ∷ [])

abbrev pub capacity_faults : Option ℕ → List ScenarioFault
capacity_faults None = []
capacity_faults (Some capacity) = cond (nat_lt (2 ^ 20) capacity) (BadCapacity ∷ []) []

-- ---- the whole

-- all faults of a JSON value
abbrev pub faults_of_value : Data → List ScenarioFault
faults_of_value d = head_faults d ++ bad_steps 0 (step_items_of d) ++ caps_faults (caps_at d)
    ++ capacity_faults (capacity_at d)

-- all faults of a document
abbrev pub AreFaultsOf : List ℕ → List ScenarioFault → Type 0
AreFaultsOf bytes faults =
    (IsNoJson bytes × (faults ≡ NotJson ∷ []))
    ⊎ ((document : Data) × IsJson bytes document × (faults ≡ faults_of_value document))

-- the document has no fault
pub record IsRight (bytes : List ℕ) : Type 0 where
  pub caps : Caps
  pub capacity : ℕ
  pub actions : List Action
  pub document : IsDocument bytes caps capacity actions
  pub opening : IsOpenable caps capacity

-- where no fault is told the document has none, and else the first is the one that a run tells
abbrev pub IsJudged : List ℕ → List ScenarioFault → Type 0
IsJudged bytes [] = IsRight bytes
IsJudged bytes (fault ∷ faults) = IsFaultOf bytes fault

-- the faults that are told
abbrev pub faults_told : List Finding → List ScenarioFault
faults_told findings = map (λ finding. finding.fault) findings

-- these faults are told besides
abbrev pub Notes : List Finding → List Finding → List ScenarioFault → Type 0
Notes old new faults = faults_told new ≡ faults_told old ++ faults
