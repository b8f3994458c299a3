use Rattle.dsa_device.proofs.device.Device.occupancy.Goals as goal
use Rattle.dsa_device.proofs.Known.{lawful, occupancy_fits}

pub occupancy-requires-clause-store : goal.occupancy-requires-clause-store
occupancy-requires-clause-store g c = c.self.invariant.whole.in_step.store

pub occupancy-requires-clause-short : goal.occupancy-requires-clause-short
occupancy-requires-clause-short g c = occupancy_fits _ _ _ c.args.queue c.self.invariant.whole

pub returns : goal.returns
returns g c = rw (← c.self.view_is, ← (lawful _ c.self.invariant.whole.past).shape.same_caps) c.occupancy.ensures
