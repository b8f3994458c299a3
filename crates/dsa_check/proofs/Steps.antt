-- The faults of steps, one step more.
use Rattle.std.proofs.Common.{◌≡◌, ◌<◌, ◌+◌, ℕ, List, [], ◌∷◌, ◌++◌, map, length, take, get_or}
use Rattle.std.proofs.Common.{refl}
use Rattle.serde_json.specs.{Data.{Data}, View.{view, items_of}, declared.value.Value.{Value}}
use Rattle.dsa_scenario.specs.{declared.faults.ScenarioFault.{ScenarioFault}, Actions.{action_of}}
use Rattle.dsa_scenario.specs.Document.{list_of_items}
use Rattle.dsa_check.specs.Judgement.{fault_of_step, bad_steps}
use Rattle.dsa_check.proofs.Items.{item_more}

-- the items of a JSON array are its list
pub items_are : (ds : List Data) → list_of_items (items_of ds) ≡ ds
items_are [] = refl
items_are (d ∷ ds) = rw (items_are ds) refl

-- one item more
pub step_more : (vs : List Value) (i : ℕ) (v : Value) (old told : List ScenarioFault) → i < length vs
    → v ≡ get_or vs i v → told ≡ old ++ bad_steps 0 (take i (map view vs))
    → told ++ fault_of_step i (action_of (view v)) ≡ old ++ bad_steps 0 (take (i + 1) (map view vs))
step_more = item_more (λ n d. fault_of_step n (action_of d)) bad_steps (λ n. refl) (λ n d ds. refl)
