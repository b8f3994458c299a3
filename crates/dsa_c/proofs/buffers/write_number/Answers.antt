use Rattle.dsa_c.proofs.buffers.write_number.Goals as goal
use Rattle.std.proofs.Common.{arith}
use Rattle.dsa_c.proofs.Placing.{past-more}

pub returns-then-place-places : goal.returns-then-place-places
returns-then-place-places c = λ rest. past-more c.args.place c.args.number rest c.args.places.now
    (omega (arith, c.if-place-places.true))
