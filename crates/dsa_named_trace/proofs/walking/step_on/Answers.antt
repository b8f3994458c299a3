use Rattle.dsa_named_trace.proofs.walking.step_on.Goals as goal
use Rattle.std.proofs.Common.{◌∙◌, ap, map}
use Rattle.std.proofs.lemmas.Result.{on_ok_weaker}
use Rattle.serde_json.specs.View.{view}
use Rattle.dsa_scenario.specs.Steps.{visit}
use Rattle.dsa_scenario.proofs.Walks.{one_more}
use Rattle.dsa_named.specs.Names.{own_of}
use Rattle.dsa_trace.specs.Changes.{told_before_step}
use Rattle.dsa_named_trace.specs.Streams.{IsNamedPageOf}
use Rattle.dsa_named_trace.proofs.Pages.{page_more}

pub returns : goal.returns
returns g c =
    let form = c.args.what.form in
    let objects = map view c.args.steps.now in
    on_ok_weaker c.add_step.result
    (λ adds caps capacity done taken h.
    one_more (IsNamedPageOf form objects taken) (λ now asked. told_before_step form now) caps capacity _ _
    done c.args.action.now c.args.number _ _ _ _ _ c.ask-entry.result c.event_for-asked.result
    (λ before t. c.event_for-asked.ensures before (rw c.deref.ensures.value t))
    c.ask-entry.ensures.answers c.ask-entry.ensures.leads c.in_ok-note_ticket.ensures
    (c.deref-2.ensures ∙ c.in_ok-told.ensures)
    (λ steps before told made.
    page_more form objects taken steps (visit c.args.number before c.ask-entry.result _) _ _ _ _ _
    (λ rest is. adds rest before told is) (ap (map own_of) c.deref-3.ensures.value) c.in_ok-note_name.ensures made) h)
    c.add_step.ensures
