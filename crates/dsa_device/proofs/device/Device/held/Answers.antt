use Rattle.dsa_device.proofs.device.Device.held.Goals as goal
use Rattle.std.proofs.Common.{arith}
use Rattle.dsa_device.proofs.Known.{cells-are}

pub returns-clause-bound : goal.returns-clause-bound
returns-clause-bound g c =
    rw (← c.self.view_is) (omega (arith, cells-are _ _ _ c.self.invariant.whole, c.cells.ensures))
