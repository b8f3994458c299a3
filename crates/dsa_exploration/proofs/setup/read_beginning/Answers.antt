use Rattle.dsa_exploration.proofs.setup.read_beginning.Goals as goal
use Rattle.std.proofs.Common.{inr}
use Rattle.std.proofs.lemmas.Result.{err_from_is_err_and}
use Rattle.dsa_scenario.proofs.Whole.{has_head, faulty_head, first_bad}
use Rattle.dsa_exploration.proofs.Plans.{runnable}

pub returns-in_err-check_head-clause-err : goal.returns-in_err-check_head-clause-err
returns-in_err-check_head-clause-err c =
    let p = err_from_is_err_and c.from_residual.result c.from_residual.ensures.1 in
    rw (p.1, p.2) (λ bytes json. faulty_head bytes _ _ _ _ (has_head bytes _ _ _ _ json c.in-Some.ensures)
    (inr c.in_err-check_head.ensures.fault))

pub returns-in_err-actions-clause-err : goal.returns-in_err-actions-clause-err
returns-in_err-actions-clause-err c =
    let p = err_from_is_err_and c.from_residual-in_err-actions.result c.from_residual-in_err-actions.ensures.1 in
    rw (p.1, p.2) (λ bytes json. first_bad bytes _ _ _ _ (has_head bytes _ _ _ _ json c.in-Some.ensures)
    c.in_err-actions.ensures.bad)

pub returns-clause-ok : goal.returns-clause-ok
returns-clause-ok c = λ bytes json.
    runnable bytes _ _ _ _ _ json c.in-Some.ensures c.in_ok-actions.ensures.ok c.in_ok-check_head.ensures.opening
