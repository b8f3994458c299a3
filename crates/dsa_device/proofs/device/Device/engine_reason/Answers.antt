use Rattle.dsa_device.proofs.device.Device.engine_reason.Goals as goal

pub returns : goal.returns
returns g c = rw (← c.self.view_is)
    (c.engine_reason.ensures c.self.inside.engines (g.S.EntryStore.content c.self.inside.store))
