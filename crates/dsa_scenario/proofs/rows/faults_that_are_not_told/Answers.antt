use Rattle.dsa_scenario.proofs.rows.faults_that_are_not_told.Goals as goal
use Rattle.std.proofs.Common.{◌≡◌, ◌∙◌, true, false, List, [], ◌∷◌, Some, None, map, take, codes, refl, ap, arith}
use Rattle.serde_json.{specs.Data.{Data}, proofs.OnLiterals.{serde_json_on_literals}}
use Rattle.dsa_regs.specs.Caps.{check_caps}
use Rattle.dsa_scenario.specs.{declared.actions.Action.{Action}, Actions.{action_of}}
use Rattle.dsa_scenario.specs.Worked.{smallest_caps_text, no_caps_text, document_text}
use Rattle.dsa_scenario.proofs.Heads.{same_caps, same_capacity, same_steps}

-- what asks nothing is no action
not_asked : (actions : List Action) → None ∷ [] ≡ map Some actions → ⊥
not_asked [] e = absurd cc
not_asked (action ∷ actions) e = absurd cc

pub returns-clause-json : goal.returns-clause-json
unfolding serde_json_on_literals
returns-clause-json c fault =
    let none = fault (codes "{}", (refl, refl)) in
    absurd cc

pub returns-clause-second_step : goal.returns-clause-second_step
unfolding serde_json_on_literals
returns-clause-second_step c fault =
    let steps = same_steps (document_text smallest_caps_text (codes "9") (codes "1,2")) _ _ _ _ refl fault.head in
    not_asked fault.bad.done (ap (λ (l : List Data). map action_of (take 1 l)) steps ∙ fault.bad.before)

pub returns-clause-step_before_caps : goal.returns-clause-step_before_caps
unfolding serde_json_on_literals
returns-clause-step_before_caps c fault =
    let steps = same_steps (document_text no_caps_text (codes "9") (codes "1")) _ _ _ _ refl fault.head in
    not_asked fault.bad.0.0 (ap (map action_of) steps ∙ fault.bad.0.1)

pub returns-clause-caps_before_capacity : goal.returns-clause-caps_before_capacity
unfolding serde_json_on_literals
returns-clause-caps_before_capacity c fault =
    let text = document_text no_caps_text (codes "1048577") [] in
    let bad : false ≡ true = ap check_caps (same_caps text _ _ _ _ refl fault.head) ∙ fault.bad.1.0 in
    absurd cc

pub returns-clause-capacity : goal.returns-clause-capacity
unfolding serde_json_on_literals
returns-clause-capacity c fault =
    let text = document_text smallest_caps_text (codes "1048576") [] in
    let capacity : 1_048_576 ≡ fault.capacity = same_capacity text _ _ _ _ refl fault.head in
    omega (arith, capacity, fault.bad.1.1)
