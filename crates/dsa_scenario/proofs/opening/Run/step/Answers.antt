use Rattle.dsa_scenario.proofs.opening.Run.step.Goals as goal
use Rattle.std.proofs.{Common.{◌∙◌}, lemmas.Result.{on_ok_weaker}}
use Rattle.dsa_scenario.specs.Streams.{IsPageBehind}
use Rattle.dsa_scenario.proofs.{Walks.{one_more}, Streams.{behind_more}}

pub returns : goal.returns
returns g c =
    on_ok_weaker c.add_step.result
    (λ adds caps capacity done taken h.
    one_more (IsPageBehind taken (g.D.RenderSteps.is_page c.args.what.now))
    (g.D.RenderSteps.told_before c.args.what.now) caps capacity _ _
    done c.args.action c.args.number _ _ _ _ _ c.ask-entry.result c.event_for-asked.result
    (λ before t. c.event_for-asked.ensures before (rw c.deref.ensures.value t))
    c.ask-entry.ensures.answers c.ask-entry.ensures.leads c.in_ok-note_ticket.ensures
    (c.deref-2.ensures ∙ c.in_ok-told.ensures)
    (λ steps before told. behind_more (g.D.RenderSteps.is_page c.args.what.now) taken steps _ _ _
    (λ rest made. adds rest before told made)) h)
    c.add_step.ensures
