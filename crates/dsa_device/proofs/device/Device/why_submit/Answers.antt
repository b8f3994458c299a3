use Rattle.dsa_device.proofs.device.Device.why_submit.Goals as goal

pub why_submit-requires : goal.why_submit-requires
why_submit-requires g c = c.self.invariant.whole.in_step.store
