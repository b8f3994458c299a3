use Rattle.dsa_expand.proofs.steps.object_with.Goals as goal
use Rattle.dsa_expand.proofs.ReadBack.{object_is}

pub returns-in-Ok : goal.returns-in-Ok
returns-in-Ok c =
    object_is _ _ _ _ c.requires c.in_ok-text.ensures c.as_bytes.ensures.value c.in-Ok.ensures.ok
