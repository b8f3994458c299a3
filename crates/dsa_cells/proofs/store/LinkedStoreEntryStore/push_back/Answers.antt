use Rattle.dsa_cells.proofs.store.LinkedStoreEntryStore.push_back.Goals as goal
use Rattle.std.proofs.Common.{rules, sym, ◌∙◌, arith}
use Rattle.dsa_cells.proofs.Contents.{front, front-unused, content-pushed, full-when}
use Rattle.dsa_cells.proofs.Contents.{not-full}

pub returns-in_err-cell-clause-full : goal.returns-in_err-cell-clause-full
returns-in_err-cell-clause-full g c =
    let full = full-when c.args.self.now.whole c.lists.ensures (sym c.head.ensures ∙ c.in_err-cell.was) in
    rw (c.from_residual.ensures) ((λ _. full), (λ _. search rules))

pub write-requires : goal.write-requires
write-requires g c = (front _ c.args.self.now.whole (sym c.head.ensures ∙ c.in_ok-cell.was)).inside

pub transfer-requires-clause-cell_in : goal.transfer-requires-clause-cell_in
transfer-requires-clause-cell_in g c =
    let f = front _ c.args.self.now.whole (sym c.head.ensures ∙ c.in_ok-cell.was) in
    omega (arith, f.inside, c.write.ensures.size)

pub transfer-requires-clause-apart : goal.transfer-requires-clause-apart
transfer-requires-clause-apart g c =
    let f = front _ c.args.self.now.whole (sym c.head.ensures ∙ c.in_ok-cell.was) in
    λ e. omega (arith, e, f.owner, c.write.ensures.owner, c.lists.ensures, c.requires)

pub returns-clause-full : goal.returns-clause-full
returns-clause-full g c =
    let f = front _ c.args.self.now.whole (sym c.head.ensures ∙ c.in_ok-cell.was) in
    ((λ h. absurd (cc)), (λ full. absurd (not-full c.args.self.now.whole c.lists.ensures f full)))

pub returns-clause-below : goal.returns-clause-below
returns-clause-below g c = (front _ c.args.self.now.whole (sym c.head.ensures ∙ c.in_ok-cell.was)).inside

pub returns-clause-unused : goal.returns-clause-unused
returns-clause-unused g c =
    let f = front _ c.args.self.now.whole (sym c.head.ensures ∙ c.in_ok-cell.was) in
    (front-unused c.args.self.now.whole c.lists.ensures f).none

pub returns-clause-some : goal.returns-clause-some
returns-clause-some g c =
    let f = front _ c.args.self.now.whole (sym c.head.ensures ∙ c.in_ok-cell.was) in
    let u = front-unused c.args.self.now.whole c.lists.ensures f in
    let w = c.write.ensures in let t = c.transfer.ensures in
    rw (t.entries, w.entries, t.lists, w.lists, w.owner, f.owner, c.lists.ensures)
    (content-pushed _ _ _ _ _ f.inside u c.requires)
