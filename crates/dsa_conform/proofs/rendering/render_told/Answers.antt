use Rattle.dsa_conform.proofs.rendering.render_told.Goals as goal
use Rattle.std.proofs.lemmas.Result.{err_from_is_err_and}
use Rattle.dsa_scenario.proofs.Whole.{has_head}

pub returns-in_err-told-clause-err : goal.returns-in_err-told-clause-err
returns-in_err-told-clause-err g c =
    let p = err_from_is_err_and c.from_residual-in_err-told.result c.from_residual-in_err-told.ensures.1 in
    rw (p.1, p.2) (c.in_err-told.ensures.err _
    (has_head _ _ _ _ _ c.in_ok-value.ensures.ok c.in-Some.ensures))

pub returns-clause-ok : goal.returns-clause-ok
returns-clause-ok g c =
    c.in_ok-told.ensures.ok _ (has_head _ _ _ _ _ c.in_ok-value.ensures.ok c.in-Some.ensures)
