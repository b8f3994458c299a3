use Rattle.dsa_serve.proofs.opening.open_first.Goals as goal
use Rattle.std.proofs.Common.{refl, inl, inr}
use Rattle.std.proofs.lemmas.Result.{IfOk-weaker, IfErr-weaker}

pub returns-then-not-is_friendly-clause-ok : goal.returns-then-not-is_friendly-clause-ok
returns-then-not-is_friendly-clause-ok c =
    rw c.if-not-is_friendly.true (IfOk-weaker c.open_session.result _ _
    (λ session serves blank. serves blank c.args.first.now refl) c.open_session.ensures.ok)

pub returns-then-not-is_friendly-clause-err : goal.returns-then-not-is_friendly-clause-err
returns-then-not-is_friendly-clause-err c = rw c.if-not-is_friendly.true c.open_session.ensures.err

pub returns-clause-ok : goal.returns-clause-ok
returns-clause-ok c =
    rw c.if-not-is_friendly.false (IfOk-weaker c.open_session-2.result _ _
    (λ session serves blank. serves blank c.args.first.now (rw c.as_bytes.ensures.value c.in_ok-strict.ensures.ok))
    c.open_session-2.ensures.ok)

pub returns-clause-err : goal.returns-clause-err
returns-clause-err c =
    rw c.if-not-is_friendly.false (IfErr-weaker c.open_session-2.result _ _
    (λ e told. elim told [
      | inl memory ↦ inl memory
      | inr fault ↦ inr (inr (c.as_bytes.result.now, rw c.as_bytes.ensures.value c.in_ok-strict.ensures.ok, fault))
    ])
    c.open_session-2.ensures.err)
