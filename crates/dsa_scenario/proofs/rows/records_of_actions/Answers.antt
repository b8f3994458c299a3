use Rattle.dsa_scenario.proofs.rows.records_of_actions.Goals as goal
use Rattle.std.proofs.Common.{arith, refl}

pub returns-clause-first_ticket : goal.returns-clause-first_ticket
returns-clause-first_ticket c = (refl, (refl, (refl, tt)))

pub returns-clause-another_second : goal.returns-clause-another_second
returns-clause-another_second c is =
    let second = is.1.0 in
    grind (arith, second)
