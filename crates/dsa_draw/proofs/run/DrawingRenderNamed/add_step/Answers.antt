use Rattle.dsa_draw.proofs.run.DrawingRenderNamed.add_step.Goals as goal
use Rattle.dsa_draw.proofs.Drawn.{AreMoments-push}

pub returns : goal.returns
returns g c = λ steps before told h. rw c.in_ok-push.ensures.items
    (AreMoments-push steps c.args.page.now.items _ c.in_ok-moment.moment h (c.in_ok-moment.ensures before told))
