use Rattle.dsa_conform.proofs.every.leave_out.Goals as goal
use Rattle.std.proofs.Common.{refl}
use Rattle.dsa_conform.proofs.Bare.{marked}

pub returns-clause-read : goal.returns-clause-read
returns-clause-read c = λ steps observed read.
    marked c.args.left_out.now.items _ steps observed c.args.number c.requires refl read
