use Rattle.dsa_device.proofs.device.Device.holds.Goals as goal
use Rattle.std.proofs.Common.{◌==◌, ◌∙◌, ap, sym}
use Rattle.dsa_base.specs.Rows.{passes}
use Rattle.dsa_store.specs.declared.entry.Entry.{Entry}
use Rattle.dsa_device.proofs.Held.{held-entry}

pub returns-in-Some : goal.returns-in-Some
returns-in-Some g c = rw (← c.self.view_is) (
    ap (passes (λ (e : Entry). e.name == c.args.ticket.name)) c.in-Some.ensures
    ∙ sym (held-entry c.args.ticket (g.S.EntryStore.content c.self.inside.store)
    ((g.met.S.EntryStore.sound c.self.inside.store).once c.args.ticket.cell)))

pub returns-in-None : goal.returns-in-None
returns-in-None g c = rw (← c.self.view_is) (
    ap (passes (λ (e : Entry). e.name == c.args.ticket.name)) c.in-None.ensures
    ∙ sym (held-entry c.args.ticket (g.S.EntryStore.content c.self.inside.store)
    ((g.met.S.EntryStore.sound c.self.inside.store).once c.args.ticket.cell)))
