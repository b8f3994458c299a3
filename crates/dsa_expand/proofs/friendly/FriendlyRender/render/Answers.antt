use Rattle.dsa_expand.proofs.friendly.FriendlyRender.render.Goals as goal
use Rattle.dsa_expand.proofs.Faultless.{only_memory}

pub returns-in-None-clause-err : goal.returns-in-None-clause-err
returns-in-None-clause-err g c =
    only_memory _ _ _ _ _ c.as_bytes.ensures.value c.in_ok-expanded.ensures.ok c.in-None.is c.render-in-None.ensures.err
