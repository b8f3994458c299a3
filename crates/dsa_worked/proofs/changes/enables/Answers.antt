use Rattle.dsa_worked.proofs.changes.enables.Goals as goal
use Rattle.std.proofs.Common.{arith, refl}

pub returns-clause-enabled : goal.returns-clause-enabled
returns-clause-enabled c = record {
  granted = record { idle = refl; queues = refl; phases = refl; check = refl };
  after = refl;
}

pub returns-clause-is_on : goal.returns-clause-is_on
returns-clause-is_on c s' enabled = grind (arith, enabled.granted.phases)

pub returns-clause-has_a_fault : goal.returns-clause-has_a_fault
returns-clause-has_a_fault c s' enabled = grind (arith, enabled.granted.check)

pub returns-clause-a_drain_is_active : goal.returns-clause-a_drain_is_active
returns-clause-a_drain_is_active c s' enabled = grind (arith, enabled.granted.idle)

pub returns-clause-device_is_off : goal.returns-clause-device_is_off
returns-clause-device_is_off c s' enabled = grind (arith, enabled.granted.phases)
