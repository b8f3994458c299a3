use Rattle.dsa_device.proofs.device.tell_end.Goals as goal
use Rattle.std.proofs.Common.{arith}

pub ended-requires : goal.ended-requires
ended-requires c = λ counts.
    let some = rw (c.in-Some-Done.is-0, c.in-Some-Done.is-1, counts) at c.requires in
    omega (arith, some)
