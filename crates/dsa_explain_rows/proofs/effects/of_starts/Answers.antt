use Rattle.dsa_explain_rows.proofs.effects.of_starts.Goals as goal
use Rattle.std.proofs.Common.{ap, arith, lit≤, refl}
use Rattle.std.specs.Prelude.{is_some, unwrap_or}

pub returns-clause-with_a_fence : goal.returns-clause-with_a_fence
returns-clause-with_a_fence c =
    record { engine = lit≤ tt; waiting = refl; fence = refl; failing = refl; home = refl; group = lit≤ tt; room = refl }

pub returns-clause-beside_another : goal.returns-clause-beside_another
returns-clause-beside_another c =
    record { engine = lit≤ tt; waiting = refl; fence = refl; failing = refl; home = refl; group = lit≤ tt; room = refl }

pub returns-clause-none_waits : goal.returns-clause-none_waits
returns-clause-none_waits c is = grind (arith, ap (λ o. is_some o) is.waiting)

pub returns-clause-no_home : goal.returns-clause-no_home
returns-clause-no_home c is = grind (arith, ap (λ o. is_some o) is.home)

pub returns-clause-another_home : goal.returns-clause-another_home
returns-clause-another_home c is = omega (arith, ap (λ o. unwrap_or o 0) is.home)
