use Rattle.dsa_named.proofs.rendering.WithNamesRender.render.Goals as goal
use Rattle.std.proofs.Common.{refl}
use Rattle.std.proofs.lemmas.Result.{err_from_is_err_and}
use Rattle.dsa_scenario.proofs.Whole.{has_head}

pub returns-in_err-text-clause-err : goal.returns-in_err-text-clause-err
returns-in_err-text-clause-err g c =
    let p = err_from_is_err_and c.from_residual-in_err-text.result c.from_residual-in_err-text.ensures.1 in
    rw (p.1, p.2) (c.in_err-text.ensures.err _
    (has_head _ _ _ _ _ c.in_ok-value.ensures.ok c.in-Some.ensures))

pub returns-clause-ok : goal.returns-clause-ok
returns-clause-ok g c =
    let head = has_head _ _ _ _ _ c.in_ok-value.ensures.ok c.in-Some.ensures in (
      refl,
      record {
        caps = _;
        capacity = _;
        objects = _;
        head = head;
        made = c.in_ok-text.ensures.ok _ head;
      },
    )
