use Rattle.dsa_worked.proofs.lawful.shapes.Goals as goal
use Rattle.std.proofs.Common.{ap, arith, refl}

pub returns-clause-new : goal.returns-clause-new
returns-clause-new c =
    record { same_caps = refl; lists = refl; configs = refl; phases = refl; groups = refl; notes = refl }

pub returns-clause-caps : goal.returns-clause-caps
returns-clause-caps c is = omega (arith, ap (λ caps. caps.slots) is.same_caps)
