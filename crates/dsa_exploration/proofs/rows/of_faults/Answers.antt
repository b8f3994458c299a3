use Rattle.dsa_exploration.proofs.rows.of_faults.Goals as goal
use Rattle.std.proofs.Common.{◌≡◌, ◌∙◌, ℕ, List, [], ◌∷◌, Some, None, Err, codes, refl, ap, lit≤, map}
use Rattle.serde_json.{specs.{Data.{Data, no_items}, Read.{read}}, proofs.OnLiterals.{serde_json_on_literals}}
use Rattle.dsa_scenario.specs.declared.actions.Action.{Action}
use Rattle.dsa_scenario.specs.declared.faults.ScenarioFault.{ScenarioFault, TheVariants.{BadParties, NoParties}}
use Rattle.dsa_scenario.specs.{Actions.{action_of}, Document.{HasHead, list_of_items}}
use Rattle.dsa_scenario.specs.Worked.{document_text, smallest_caps, smallest_caps_text, stepless_text}
use Rattle.dsa_scenario.proofs.Heads.{same_steps}
use Rattle.dsa_plans.specs.Plans.{parties_said}
use Rattle.dsa_exploration.specs.{Exploration.{HasBadParties}, Worked.{script_of_nobody, text_with_parties}}

pub returns-clause-no_parties : goal.returns-clause-no_parties
unfolding serde_json_on_literals
returns-clause-no_parties c = λ form bounds.
    let text = stepless_text (codes "9") in (
      refl,
      record {
        document = _;
        caps = smallest_caps;
        actions = [];
        runnable = record {
          capacity = 9;
          items = no_items;
          json = record { utf8 = (text, (refl, refl)); value = refl };
          head = refl;
          asked = refl;
          opens = record { good = refl; small = lit≤ tt };
        };
        said = refl;
      },
    )

-- what is read has no parties
none_said : (text : List ℕ) (d : Data) (fault : ScenarioFault) → read text ≡ Some d
    → ((engines : ℕ) → parties_said engines d ≡ Err NoParties) → HasBadParties text fault → fault ≡ NoParties
none_said text d fault reads none has =
    let value = has.runnable.json.value in
    let same : d ≡ has.document = cc in
    let here = none has.caps.engines in
    let there = ap (parties_said has.caps.engines) same in
    let said = has.said in
    cc

pub returns-clause-other : goal.returns-clause-other
unfolding serde_json_on_literals
returns-clause-other c = λ form bounds text has.
    let same = none_said (stepless_text (codes "9")) _ BadParties refl (λ engines. refl) has.1 in
    absurd cc

-- a step that is none keeps a run from its beginning
not_asked : (actions : List Action) → None ∷ [] ≡ map Some actions → ⊥
not_asked [] e = absurd cc
not_asked (action ∷ actions) e = absurd cc

pub returns-clause-step : goal.returns-clause-step
unfolding serde_json_on_literals
returns-clause-step c = λ form bounds told has.
    let text = document_text smallest_caps_text (codes "9") (codes "1") in
    let r = has.1.runnable in
    let head : HasHead text has.1.caps r.capacity (list_of_items r.items) =
    record { document = has.1.document; items = r.items; json = r.json; head = r.head; listed = refl } in
    let same = same_steps text _ has.1.caps r.capacity _ refl head in
    not_asked has.1.actions (ap (map action_of) same ∙ r.asked)

pub returns-clause-party : goal.returns-clause-party
unfolding serde_json_on_literals
returns-clause-party c = λ form bounds.
    let text = text_with_parties (codes "{\"admins\":[{\"steps\":[]},1]}") in (
      refl,
      record {
        document = _;
        caps = smallest_caps;
        actions = [];
        runnable = record {
          capacity = 9;
          items = no_items;
          json = record { utf8 = (text, (refl, refl)); value = refl };
          head = refl;
          asked = refl;
          opens = record { good = refl; small = lit≤ tt };
        };
        said = refl;
      },
    )

pub returns-clause-no_object : goal.returns-clause-no_object
unfolding serde_json_on_literals
returns-clause-no_object c = λ form bounds.
    let text = text_with_parties (codes "[]") in (
      refl,
      record {
        document = _;
        caps = smallest_caps;
        actions = [];
        runnable = record {
          capacity = 9;
          items = no_items;
          json = record { utf8 = (text, (refl, refl)); value = refl };
          head = refl;
          asked = refl;
          opens = record { good = refl; small = lit≤ tt };
        };
        said = refl;
      },
    )

pub returns-clause-question : goal.returns-clause-question
unfolding serde_json_on_literals
returns-clause-question c = λ form bounds memory.
    let text = text_with_parties (codes "{},\"never\":[5]") in (
      refl,
      record {
        caps = smallest_caps;
        script = script_of_nobody memory;
        setup = [];
        labels = [];
        acts = [];
        plan = record {
          document = _;
          actions = [];
          runnable = record {
            capacity = 9;
            items = no_items;
            json = record { utf8 = (text, (refl, refl)); value = refl };
            head = refl;
            asked = refl;
            opens = record { good = refl; small = lit≤ tt };
          };
          events = refl;
          said = refl;
          watched = refl;
          entries_called = refl;
          acts_called = refl;
        };
        said = refl;
      },
    )
