use Rattle.dsa_conform.proofs.retelling.retell_step.Goals as goal
use Rattle.std.proofs.Common.{◌∙◌}
use Rattle.dsa_conform.specs.Seen.{seen_as}
use Rattle.dsa_conform.proofs.ToldAgain.{page_more}

pub returns : goal.returns
returns g c = λ caps capacity done h.
    page_more (g.D.RenderSteps.is_page c.args.what.now) (g.D.RenderSteps.told_before c.args.what.now) caps capacity _ _
    done (c.args.action, seen_as c.args.seen.now) c.args.number _ _ _ _ _ c.in_ok-entry.entry c.event_for-asked.result
    (λ before t. c.event_for-asked.ensures before (rw c.as_slice.ensures.value t))
    (c.deref.ensures ∙ c.in_ok-told.ensures) c.in_ok-entry.ensures.made c.in_ok-add_step.ensures h
