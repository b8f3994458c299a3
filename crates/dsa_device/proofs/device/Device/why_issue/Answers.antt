use Rattle.dsa_device.proofs.device.Device.why_issue.Goals as goal
use Rattle.std.proofs.Common.{refl}
use Rattle.dsa_device.specs.Running.{running_of}

pub returns : goal.returns
returns g c =
    let i = c.self.inside in
    let s = (running_of i.caps i.queues.setup i.engines (g.S.EntryStore.content i.store) i.admin.active i.book).state in
    rw (← c.self.view_is)
    (c.why_issue.ensures.reason s refl refl c.self.invariant.counted c.self.invariant.awaiting)
