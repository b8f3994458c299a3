use Rattle.dsa_command_rows.proofs.comparisons.devices_with_another_room.Goals as goal
use Rattle.std.proofs.Common.{refl}

pub returns : goal.returns
returns c = record {
  room = record {
    caps = refl;
    capacity = refl;
    count = refl;
    states = record { setup = refl; entries = refl; notes = refl; active = refl };
  };
}
