use Rattle.dsa_conform.proofs.rows.devices_alike.Goals as goal
use Rattle.std.proofs.Common.{ap, arith, length, refl}

pub returns-clause-same : goal.returns-clause-same
returns-clause-same c = record {
  caps = refl;
  capacity = refl;
  count = refl;
  states = record { setup = refl; entries = refl; notes = refl; active = refl };
}

pub returns-clause-caps : goal.returns-clause-caps
returns-clause-caps c alike = omega (arith, ap (λ caps. caps.total_size) alike.caps)

pub returns-clause-capacity : goal.returns-clause-capacity
returns-clause-capacity c alike = omega (arith, alike.capacity)

pub returns-clause-room : goal.returns-clause-room
returns-clause-room c alike = omega (arith, alike.count)

pub returns-clause-states : goal.returns-clause-states
returns-clause-states c alike = grind (arith, alike.states.entries)

pub returns-clause-queue : goal.returns-clause-queue
returns-clause-queue c = record { config = refl; phase = refl; waiting = refl }

pub returns-clause-config : goal.returns-clause-config
returns-clause-config c alike = omega (arith, ap (λ config. config.size) alike.config)

pub returns-clause-phase : goal.returns-clause-phase
returns-clause-phase c alike = grind (arith, alike.phase)

pub returns-clause-waiting : goal.returns-clause-waiting
returns-clause-waiting c alike = omega (arith, ap length alike.waiting)

pub returns-clause-engine : goal.returns-clause-engine
returns-clause-engine c = record { note = refl; in_progress = refl; members = refl }

pub returns-clause-note : goal.returns-clause-note
returns-clause-note c alike = grind (arith, alike.note)

pub returns-clause-in_progress : goal.returns-clause-in_progress
returns-clause-in_progress c alike = omega (arith, ap length alike.in_progress)

pub returns-clause-members : goal.returns-clause-members
returns-clause-members c alike = omega (arith, ap length alike.members)
