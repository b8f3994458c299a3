use Rattle.dsa_store.proofs.walk.front_entry.Goals as goal
use Rattle.std.proofs.Common.{◌∙◌, sym, ap, slice_get}
use Rattle.dsa_store.{proofs.Walks.{entries_from-front, entries_from-end, entries_from-turn}}

pub returns-in_err-entry : goal.returns-in_err-entry
returns-in_err-entry g c =
    let content = g.S.EntryStore.content c.args.store.now in
    let once = (g.met.S.EntryStore.sound c.args.store.now).once in
    let list = entries_from-front content c.args.list.0 _ once (sym c.in_ok-cell.was ∙ c.front.ensures) in
    c.from_residual-in_err-entry.ensures
    ∙ ap (λ l. slice_get l 0) (sym (entries_from-end content c.in_ok-cell.cell once (sym c.get.ensures
    ∙ c.in_err-entry.was)) ∙ list)

pub returns : goal.returns
returns g c =
    let content = g.S.EntryStore.content c.args.store.now in
    let once = (g.met.S.EntryStore.sound c.args.store.now).once in
    let list = entries_from-front content c.args.list.0 _ once (sym c.in_ok-cell.was ∙ c.front.ensures) in
    ap (λ l. slice_get l 0) (sym (entries_from-turn content c.in_ok-cell.cell c.in_ok-entry.entry once
    (sym c.get.ensures ∙ c.in_ok-entry.was)) ∙ list)
