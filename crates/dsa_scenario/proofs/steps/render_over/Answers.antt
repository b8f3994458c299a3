use Rattle.dsa_scenario.proofs.steps.render_over.Goals as goal
use Rattle.std.proofs.{Common.{refl}, lemmas.Result.{err_from_is_err_and}}
use Rattle.dsa_scenario.proofs.{Walks.{opened, text_of_run}, Whole.{cannot_open}}

pub returns-in_err-run-clause-err : goal.returns-in_err-run-clause-err
returns-in_err-run-clause-err g c =
    let p = err_from_is_err_and c.from_residual-in_err-run.result c.from_residual-in_err-run.ensures.1 in
    rw (p.1, p.2) (cannot_open _ _ _ _ _ c.in_ok-script.ensures.ok c.in_err-run.ensures.fault)

pub returns-clause-ok : goal.returns-clause-ok
returns-clause-ok g c =
    let what = c.args.what.now in
    let script = c.in_ok-script.script in
    let made = c.in_ok-make_all.ensures script.caps script.capacity
    (opened (g.D.RenderSteps.is_page what) _ _ _ _ _ c.in_ok-run.ensures.first c.open-page.ensures) in (
      refl,
      record {
        caps = script.caps;
        capacity = script.capacity;
        actions = script.actions.items;
        document = c.in_ok-script.ensures.ok;
        opening = c.in_ok-run.ensures.opening;
        of_run = text_of_run (g.D.RenderSteps.is_page what) (g.D.RenderSteps.is_text what) script.caps script.capacity
            script.actions.items _ _ _ _ _ (rw c.deref.ensures.value at made) c.in_ok-text.ensures;
      },
    )
