-- Devices that the worked rows speak of.
use Rattle.dsa_device.specs.Running.{Running, running_at_first}
use Rattle.dsa_scenario.specs.Worked.{smallest_caps}
use Rattle.dsa_named_lines.specs.Worked.{state_of_a_drain, state_of_three}

-- entries 5 and 7 wait in its queue, and its engine has entry 4
abbrev pub device_of_a_drain : Running
device_of_a_drain = record (running_at_first smallest_caps 9) { state = state_of_a_drain }

-- nothing is held, and three entries have ended
abbrev pub device_of_three : Running
device_of_three = record (running_at_first smallest_caps 9) { state = state_of_three }
