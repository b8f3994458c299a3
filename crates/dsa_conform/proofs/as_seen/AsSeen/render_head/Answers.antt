use Rattle.dsa_conform.proofs.as_seen.AsSeen.render_head.Goals as goal
use Rattle.std.proofs.Common.{inl, inr}
use Rattle.std.proofs.lemmas.Result.{IfErr-weaker}

pub returns-clause-err : goal.returns-clause-err
returns-clause-err g c = IfErr-weaker c.tell_head.result _ _
    (λ e h bytes head. elim (h bytes head) [
      | inl memory ↦ inl memory
      | inr other ↦ inr other.0
    ])
    c.tell_head.ensures.err
