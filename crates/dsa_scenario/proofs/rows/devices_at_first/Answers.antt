use Rattle.dsa_scenario.proofs.rows.devices_at_first.Goals as goal
use Rattle.std.proofs.Common.{◌≡◌, ap, arith, false, lit≤, refl, true}
use Rattle.dsa_device.specs.Running.{Running}

pub returns-clause-new : goal.returns-clause-new
returns-clause-new c = record {
  device = refl;
  replay = record { caps = refl; bounded = lit≤ tt; within = lit≤ tt; legal = refl; replayed = refl };
  none = refl;
}

pub returns-clause-another_device : goal.returns-clause-another_device
returns-clause-another_device c is = omega (arith, ap (λ (d : Running). d.capacity) is.device)

pub returns-clause-no_device : goal.returns-clause-no_device
returns-clause-no_device c is =
    let good : false ≡ true = is.replay.caps in
    absurd cc

pub returns-clause-a_ticket : goal.returns-clause-a_ticket
returns-clause-a_ticket c is =
    let none = is.none in
    absurd cc
