use Rattle.dsa_scenario.proofs.rows.what_may_be_opened.Goals as goal
use Rattle.std.proofs.Common.{◌≡◌, arith, false, lit≤, refl, true}

pub returns-clause-largest : goal.returns-clause-largest
returns-clause-largest c = record { good = refl; small = lit≤ tt }

pub returns-clause-too_large : goal.returns-clause-too_large
returns-clause-too_large c is = omega (arith, is.small)

pub returns-clause-no_device : goal.returns-clause-no_device
returns-clause-no_device c is =
    let good : false ≡ true = is.good in
    absurd cc
