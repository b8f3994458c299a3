use Rattle.dsa_scenario.proofs.opening.Run.walk.Goals as goal
use Rattle.std.proofs.lemmas.Result.{on_ok_weaker}
use Rattle.dsa_scenario.proofs.Streams.{kept_walk}

pub returns-clause-ok : goal.returns-clause-ok
returns-clause-ok g c =
    on_ok_weaker c.walk_into.result
    (λ walked. (
      walked.0,
      walked.1,
      λ caps capacity h.
          kept_walk (g.D.RenderSteps.is_page c.args.what.now) caps capacity walked.0 _ _ _ _ _ _ _
          (walked.2 caps capacity c.walk_into.new.sink) h,
    ))
    c.walk_into.ensures.ok
