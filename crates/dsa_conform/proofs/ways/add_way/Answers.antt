use Rattle.dsa_conform.proofs.ways.add_way.Goals as goal
use Rattle.dsa_conform.proofs.Companions.{added_before, added_behind}

pub returns-then-is_among : goal.returns-then-is_among
returns-then-is_among c =
    added_before _ _ (rw c.as_slice.ensures.value at (c.is_among.ensures.among c.if-is_among.true))

pub returns : goal.returns
returns c =
    added_behind _ _ _ (rw c.as_slice.ensures.value at (c.is_among.ensures.none c.if-is_among.false))
    c.in_ok-push.ensures.items
