use Rattle.dsa_device.proofs.device.Device.group_of.Goals as goal

pub returns : goal.returns
returns g c = rw (← c.self.view_is) c.group_of.ensures.group
