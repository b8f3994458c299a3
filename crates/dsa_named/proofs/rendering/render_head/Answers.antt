use Rattle.dsa_named.proofs.rendering.render_head.Goals as goal
use Rattle.std.proofs.lemmas.Result.{err_from_is_err_and}
use Rattle.dsa_scenario.proofs.{Walks.{opened, text_of_run}, Whole.{faulty_head, first_bad}}

pub returns-in_err-run-clause-err : goal.returns-in_err-run-clause-err
returns-in_err-run-clause-err g c =
    let p = err_from_is_err_and c.from_residual.result c.from_residual.ensures.1 in
    rw (p.1, p.2) (λ bytes head. faulty_head _ _ _ _ _ head c.in_err-run.ensures.fault)

pub returns-in_err-walk-clause-err : goal.returns-in_err-walk-clause-err
returns-in_err-walk-clause-err g c =
    let p = err_from_is_err_and c.from_residual-in_err-walk.result c.from_residual-in_err-walk.ensures.1 in
    rw (p.1, p.2) (λ bytes head. first_bad _ _ _ _ _ head c.in_err-walk.ensures.bad)

pub returns-clause-ok : goal.returns-clause-ok
returns-clause-ok g c bytes has =
    let what = c.args.what.now in
    let head = c.args.head.now in
    let walked = c.in_ok-walk.ensures.ok in
    record {
      caps = head.caps;
      capacity = head.capacity;
      actions = walked.0;
      document = record { steps = _; head = has; asked = walked.1 };
      opening = c.in_ok-run.ensures.opening;
      of_run = text_of_run (g.D.RenderSteps.is_page what) (g.D.RenderSteps.is_text what) head.caps head.capacity
          walked.0 _ _ _ _ _ (walked.2 head.caps head.capacity (opened (g.D.RenderSteps.is_page what) _ _ _ _ _
          c.in_ok-run.ensures.first c.open-page.ensures)) c.in_ok-text.ensures;
    }
