use Rattle.dsa_engines.proofs.engines.Engines.finish.Goals as goal
use Rattle.std.proofs.Common.{◌∙◌, sym, ap}
use Rattle.dsa_book.specs.Records.{Records}
use Rattle.dsa_engines.proofs.{Finding.{running-place}, Ending.{holds-need, in_step-ended, leaves-ended, finish-done}}
use Rattle.dsa_engines.{specs.Engines.{work}, proofs.EndReasons.{finish-refused}}

pub returns-in-Err-clause-step : goal.returns-in-Err-clause-step
returns-in-Err-clause-step g c = rw c.answer.ensures (finish-refused (work c.args.queues.now.setup c.args.self.now
    (g.S.EntryStore.content c.args.store.now) c.args.book.now.fates) c.args.engine c.args.ticket c.args.outcome c.in-Err.reason
    ((g.met.S.EntryStore.sound c.args.store.now).once c.args.ticket.cell) c.in-Err.ensures.reason)

pub give_back-requires : goal.give_back-requires
give_back-requires g c =
    let once = (g.met.S.EntryStore.sound c.args.store.now).once c.args.ticket.cell in
    holds-need c.requires.in_step once (running-place _ _ _ _ _ once c.in-Ok.ensures.running) c.home.ensures c.need.ensures

pub returns-clause-step : goal.returns-clause-step
returns-clause-step g c =
    let content = g.S.EntryStore.content c.args.store.now in
    rw c.left.ensures (finish-done c.args.self.now content c.args.book.now.fates c.args.engine c.need.result
    c.home.result c.args.ticket
    c.args.outcome c.in-Ok.ensures.running c.in-Ok.ensures.ready
    (c.last_status-status.ensures content c.args.ticket.cell) c.give_back.ensures
    (c.write_note_after.ensures content c.args.ticket.cell) c.unlink.ensures.after
    (ap (λ (b : Records). b.fates) c.add_row.ensures))

pub returns-clause-in_step : goal.returns-clause-in_step
returns-clause-in_step g c =
    let once = (g.met.S.EntryStore.sound c.args.store.now).once c.args.ticket.cell in
    rw c.left.ensures (in_step-ended c.requires.in_step once (running-place _ _ _ _ _ once c.in-Ok.ensures.running)
    c.home.ensures
    c.need.ensures _ c.unlink.ensures.cells c.give_back.ensures
    (c.write_note_after.ensures (g.S.EntryStore.content c.args.store.now) c.args.ticket.cell) c.unlink.ensures.after)

pub left-requires-clause-there : goal.left-requires-clause-there
left-requires-clause-there g c =
    let once = (g.met.S.EntryStore.sound c.args.store.now).once c.args.ticket.cell in
    (leaves-ended c.requires.in_step once (running-place _ _ _ _ _ once c.in-Ok.ensures.running) c.requires.counted).there

pub left-requires-clause-some : goal.left-requires-clause-some
left-requires-clause-some g c =
    let once = (g.met.S.EntryStore.sound c.args.store.now).once c.args.ticket.cell in
    (leaves-ended c.requires.in_step once (running-place _ _ _ _ _ once c.in-Ok.ensures.running) c.requires.counted).some

pub returns-clause-counted : goal.returns-clause-counted
returns-clause-counted g c =
    let once = (g.met.S.EntryStore.sound c.args.store.now).once c.args.ticket.cell in
    rw (c.left.ensures, c.unlink.ensures.after)
    (leaves-ended c.requires.in_step once (running-place _ _ _ _ _ once c.in-Ok.ensures.running) c.requires.counted).counted
