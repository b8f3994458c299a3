use Rattle.dsa_store.proofs.walk.WalkIterator.next.Goals as goal
use Rattle.std.proofs.Common.{◌∙◌, sym, ap, refl, rules, length}
use Rattle.dsa_store.{specs.{Walk.{entries_from}}, proofs.Walks.{entries_from-end, entries_from-turn}}

pub returns-in_err-entry-clause-steps : goal.returns-in_err-entry-clause-steps
returns-in_err-entry-clause-steps g c =
    let content = g.S.EntryStore.content c.self.inside.store.now in
    let once = (g.met.S.EntryStore.sound c.self.inside.store.now).once in
    let nothing = sym c.self.view_is ∙ ap (entries_from content) c.in_ok-cell.was
    ∙ entries_from-end content c.in_ok-cell.cell once (sym c.get.ensures ∙ c.in_err-entry.was) in
    rw c.from_residual-in_err-entry.ensures (nothing, nothing)

pub returns-clause-steps : goal.returns-clause-steps
returns-clause-steps g c =
    let content = g.S.EntryStore.content c.self.inside.store.now in
    let once = (g.met.S.EntryStore.sound c.self.inside.store.now).once in
    sym c.self.view_is ∙ ap (entries_from content) c.in_ok-cell.was
    ∙ entries_from-turn content c.in_ok-cell.cell c.in_ok-entry.entry once (sym c.get.ensures ∙ c.in_ok-entry.was)
    ∙ rw c.next-self-inside.ensures refl

pub returns-clause-goes : goal.returns-clause-goes
returns-clause-goes g c =
    let turn = ap length (returns-clause-steps g c) in
    search rules
