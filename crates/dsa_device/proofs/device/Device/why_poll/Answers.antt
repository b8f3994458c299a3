use Rattle.dsa_device.proofs.device.Device.why_poll.Goals as goal
use Rattle.std.proofs.Common.{◌≡◌, refl, subst}
use Rattle.dsa_admin.specs.Command.{poll_reason}
use Rattle.dsa_device.specs.Running.{Running, running_of}

pub returns : goal.returns
returns g c =
    let i = c.self.inside in
    let d = running_of i.caps i.queues.setup i.engines (g.S.EntryStore.content i.store) i.admin.active i.book in
    subst (λ (d : Running). c.why_poll.result ≡ poll_reason d.state) c.self.view_is
    (c.why_poll.ensures d.state refl c.self.invariant.counted c.self.invariant.awaiting)
