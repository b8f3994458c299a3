use Rattle.dsa_exploration.proofs.showing.show_value.Goals as goal
use Rattle.std.proofs.Common.{◌∙◌, [], ap, inl, inr, refl, sym}
use Rattle.serde_json.specs.View.{view}
use Rattle.dsa_exploration.specs.Plan.{setup_events}
use Rattle.dsa_exploration.proofs.{Faults.{other_than}, Shown.{shown-alone}}

pub returns-in_default-clause-ok : goal.returns-in_default-clause-ok
returns-in_default-clause-ok c = λ bytes json.
    let said = other_than c.in_default.not-OutOfMemory c.in-Err.ensures.err in
    shown-alone c.args.showing.now.bounds c.args.showing.now.row.now bytes _ _ _ (record {
      document = _;
      caps = _;
      actions = _;
      runnable = c.in_ok-begun.ensures.ok bytes json;
      said = said;
    }) c.fault_alone.ensures.text c.fault_alone.ensures.fault

pub returns-then-branch-clause-ok : goal.returns-then-branch-clause-ok
returns-then-branch-clause-ok c = λ bytes json.
    inr (c.in_ok-rendering.ensures bytes (record {
      document = view c.args.document.now;
      actions = c.in_ok-begun.begun.actions.items;
      runnable = c.in_ok-begun.ensures.ok bytes json;
      events = refl;
      said = c.in-Ok.ensures.script;
      watched = c.in-Ok.ensures.watches;
      entries_called = c.in-Ok.ensures.labels;
      acts_called = c.in-Ok.ensures.acts;
    }) refl (sym c.in_ok-calls_question.ensures ∙ c.if-branch.true))

pub returns-clause-ok : goal.returns-clause-ok
returns-clause-ok c = λ bytes json.
    inl (c.in_ok-rendering-2.ensures bytes (record {
      document = view c.args.document.now;
      actions = c.in_ok-begun.begun.actions.items;
      runnable = c.in_ok-begun.ensures.ok bytes json;
      events = ap setup_events c.as_slice-actions.ensures.value;
      said = c.in-Ok.ensures.script;
      watched = c.in-Ok.ensures.watches;
      entries_called = c.in-Ok.ensures.labels;
      acts_called = c.in-Ok.ensures.acts;
    }) (sym c.in_ok-calls_question.ensures ∙ c.if-branch.false))
