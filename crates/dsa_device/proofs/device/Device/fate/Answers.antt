use Rattle.dsa_device.proofs.device.Device.fate.Goals as goal
use Rattle.std.proofs.Common.{rules}

pub returns : goal.returns
returns g c = rw (← c.self.view_is) (search rules)
