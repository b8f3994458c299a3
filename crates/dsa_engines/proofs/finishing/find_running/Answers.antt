use Rattle.dsa_engines.proofs.finishing.find_running.Goals as goal
use Rattle.std.proofs.Common.{◌∙◌, sym}
use Rattle.dsa_engines.proofs.{Homes.{has-engine}, EndReasons.{no-list, no-entry, entry-gone, entry-meant}}

pub returns-in_default-clause-running : goal.returns-in_default-clause-running
returns-in_default-clause-running g c =
    no-list c.args.queues.now.setup (g.S.EntryStore.content c.args.store.now) c.args.engine c.args.ticket
    ((g.met.S.EntryStore.sound c.args.store.now).once c.args.ticket.cell)
    (has-engine c.caps-caps.ensures.value c.if-engine-caps.false) (sym c.in_default.ensures)

pub returns-in_default-get-clause-running : goal.returns-in_default-get-clause-running
returns-in_default-get-clause-running g c =
    no-entry c.args.queues.now.setup (g.S.EntryStore.content c.args.store.now) c.args.engine c.args.ticket
    ((g.met.S.EntryStore.sound c.args.store.now).once c.args.ticket.cell)
    (has-engine c.caps-caps.ensures.value c.if-engine-caps.false) (sym c.in-Some.ensures)
    (sym c.in_default-get.ensures)

pub returns-in-Some-gone_reason-clause-running : goal.returns-in-Some-gone_reason-clause-running
returns-in-Some-gone_reason-clause-running g c =
    entry-gone c.args.queues.now.setup (g.S.EntryStore.content c.args.store.now) c.args.engine c.args.ticket
    ((g.met.S.EntryStore.sound c.args.store.now).once c.args.ticket.cell)
    (has-engine c.caps-caps.ensures.value c.if-engine-caps.false) (sym c.in-Some.ensures) (sym c.in-Some-get.ensures)
    c.in-Some-gone_reason.reason (rw (← c.list_use.ensures.use_of) c.in-Some-gone_reason.ensures)

pub returns-in-None-clause-running : goal.returns-in-None-clause-running
returns-in-None-clause-running g c =
    entry-meant c.args.queues.now.setup (g.S.EntryStore.content c.args.store.now) c.args.engine c.args.ticket
    ((g.met.S.EntryStore.sound c.args.store.now).once c.args.ticket.cell)
    (has-engine c.caps-caps.ensures.value c.if-engine-caps.false) (sym c.in-Some.ensures) (sym c.in-Some-get.ensures)
    (rw (← c.list_use.ensures.use_of) c.in-None.ensures)
