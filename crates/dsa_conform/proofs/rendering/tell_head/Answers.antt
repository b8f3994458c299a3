use Rattle.dsa_conform.proofs.rendering.tell_head.Goals as goal
use Rattle.std.proofs.lemmas.Result.{err_from_is_err_and}
use Rattle.dsa_conform.proofs.{Faults.{bad_keys}, Steps.{told_of}}

pub returns-in-Some-clause-ok : goal.returns-in-Some-clause-ok
returns-in-Some-clause-ok g c bytes head = (
  record { caps = _; capacity = _; steps = _; head = head; bad = c.in-Some.ensures },
  c.new.ensures.bytes,
)

pub returns-in_err-check_head-clause-err : goal.returns-in_err-check_head-clause-err
returns-in_err-check_head-clause-err g c =
    let p = err_from_is_err_and c.from_residual.result c.from_residual.ensures.1 in
    rw (p.1, p.2) (λ bytes head. bad_keys _ _ _ _ _ _ head c.in_default.ensures.1
    c.in_err-check_head.ensures.fault)

pub returns-clause-ok : goal.returns-clause-ok
returns-clause-ok g c bytes head =
    told_of (g.T.TellSteps.is_told c.args.what.now) (g.T.TellSteps.reads_all c.args.what.now) _ _ _ _ _ _ head
    c.in_ok-check_head.ensures.opening c.in_ok-verdict.ensures
