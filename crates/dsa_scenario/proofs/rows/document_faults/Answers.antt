use Rattle.dsa_scenario.proofs.rows.document_faults.Goals as goal
use Rattle.std.proofs.Common.{[], ◌∷◌, codes, refl, lit<}
use Rattle.serde_json.proofs.OnLiterals.{serde_json_on_literals}
use Rattle.dsa_book.specs.declared.event.Event.TheVariants.{Poll}
use Rattle.dsa_scenario.specs.declared.actions.Action.TheVariants.{Ask}
use Rattle.dsa_scenario.specs.declared.faults.ScenarioFault.TheVariants.{BadStep, BadCaps, BadCapacity}
use Rattle.dsa_scenario.specs.Worked.{smallest_caps_text, no_caps_text, document_text}
use Rattle.dsa_scenario.proofs.Heads.{faulty}

pub returns-clause-empty : goal.returns-clause-empty
unfolding serde_json_on_literals
returns-clause-empty c = λ utf8. refl

pub returns-clause-cut : goal.returns-clause-cut
unfolding serde_json_on_literals
returns-clause-cut c = λ utf8. refl

pub returns-clause-no_keys : goal.returns-clause-no_keys
unfolding serde_json_on_literals
returns-clause-no_keys c =
    record { document = _; json = record { utf8 = (codes "{}", (refl, refl)); value = refl }; none = refl }

pub returns-clause-step : goal.returns-clause-step
unfolding serde_json_on_literals
returns-clause-step c =
    let text = document_text no_caps_text (codes "1048577") (codes "{\"do\":\"poll\"},1,2") in
    faulty text _ _ _ _ (BadStep 1) (text, (refl, refl)) refl refl
    (record { done = Ask Poll ∷ []; before = refl; here = refl })

pub returns-clause-caps : goal.returns-clause-caps
unfolding serde_json_on_literals
returns-clause-caps c =
    let text = document_text no_caps_text (codes "1048577") [] in
    faulty text _ _ _ _ BadCaps (text, (refl, refl)) refl refl (([], refl), refl)

pub returns-clause-capacity : goal.returns-clause-capacity
unfolding serde_json_on_literals
returns-clause-capacity c =
    let text = document_text smallest_caps_text (codes "1048577") [] in
    faulty text _ _ _ _ BadCapacity (text, (refl, refl)) refl refl (([], refl), (refl, lit< tt))
