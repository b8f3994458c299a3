use Rattle.dsa_scenario.proofs.script.script_by_value.Goals as goal
use Rattle.std.proofs.lemmas.Result.{err_from_is_err_and}
use Rattle.dsa_scenario.proofs.Whole.{has_head, first_bad}

pub returns-in_err-actions-clause-err : goal.returns-in_err-actions-clause-err
returns-in_err-actions-clause-err c =
    let p = err_from_is_err_and c.from_residual-in_err-actions.result c.from_residual-in_err-actions.ensures.1 in
    rw (p.1, p.2) (first_bad _ _ _ _ _ (has_head _ _ _ _ _ c.in_ok-value.ensures.ok c.in-Some.ensures)
    c.in_err-actions.ensures.bad)

pub returns-clause-ok : goal.returns-clause-ok
returns-clause-ok c = record {
  steps = _;
  head = has_head _ _ _ _ _ c.in_ok-value.ensures.ok c.in-Some.ensures;
  asked = c.in_ok-actions.ensures.ok;
}
