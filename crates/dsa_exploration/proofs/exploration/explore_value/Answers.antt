use Rattle.dsa_exploration.proofs.exploration.explore_value.Goals as goal
use Rattle.std.proofs.Common.{refl}
use Rattle.serde_json.specs.View.{view}
use Rattle.dsa_exploration.proofs.Faults.{other_than, told_alone}

pub returns-in_default-clause-ok : goal.returns-in_default-clause-ok
returns-in_default-clause-ok c = λ bytes json.
    let said = other_than c.in_default.not-OutOfMemory c.in-Err.ensures.err in
    told_alone c.args.exploring.form c.args.exploring.bounds bytes _ _ _ (record {
      document = _;
      caps = _;
      actions = _;
      runnable = c.in_ok-begun.ensures.ok bytes json;
      said = said;
    }) c.fault_alone.ensures.text c.fault_alone.ensures.fault

pub returns-clause-ok : goal.returns-clause-ok
returns-clause-ok c = λ bytes json. c.in_ok-rendering.ensures bytes (record {
  document = view c.args.document.now;
  actions = c.in_ok-begun.begun.actions.items;
  runnable = c.in_ok-begun.ensures.ok bytes json;
  events = refl;
  said = c.in-Ok.ensures.script;
  watched = c.in-Ok.ensures.watches;
  entries_called = c.in-Ok.ensures.labels;
  acts_called = c.in-Ok.ensures.acts;
}) refl
