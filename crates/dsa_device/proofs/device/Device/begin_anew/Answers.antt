use Rattle.dsa_device.proofs.device.Device.begin_anew.Goals as goal
use Rattle.std.proofs.Common.{arith}
use Rattle.dsa_device.proofs.Anew.{running-anew, either, on_ok, on_err}

pub returns-clause-ok : goal.returns-clause-ok
returns-clause-ok g c =
    let i = c.self.inside in
    on_ok c.begin_anew.result c.begin_anew.ensures.ok (λ is. rw (← c.self.view_is)
    (running-anew (g.S.EntryStore.cells i.store) _ _ i.queues i.engines i.admin i.caps i.queues.setup
    (g.S.EntryStore.content i.store) i.admin.active i.book c.begin_anew.new.self c.args.past c.self.invariant is
    (omega (arith, c.next_name-names.ensures)) (omega (arith, c.cells.ensures, c.free.ensures))).1)

pub returns-clause-err : goal.returns-clause-err
returns-clause-err g c = on_err c.begin_anew.result c.begin_anew.ensures.err (λ same. rw same c.self.view_is)

pub invariant_of-self : goal.invariant_of-self
invariant_of-self g c =
    let i = c.self.inside in
    either c.begin_anew.result c.begin_anew.ensures.ok c.begin_anew.ensures.err
    (λ is. (running-anew (g.S.EntryStore.cells i.store) _ _ i.queues i.engines i.admin i.caps i.queues.setup
    (g.S.EntryStore.content i.store) i.admin.active i.book c.begin_anew.new.self c.args.past c.self.invariant is
    (omega (arith, c.next_name-names.ensures)) (omega (arith, c.cells.ensures, c.free.ensures))).0)
    (λ same. rw same c.self.invariant)
