use Rattle.dsa_cells.proofs.store.LinkedStoreEntryStore.move_front.Goals as goal
use Rattle.std.proofs.Common.{ap, sym, ◌∙◌}
use Rattle.dsa_cells.specs.Content.{cell_of_number}
use Rattle.dsa_cells.proofs.Contents.{front, front-is, content-moved}

pub transfer-requires-clause-cell_in : goal.transfer-requires-clause-cell_in
transfer-requires-clause-cell_in g c =
    (front _ c.args.self.now.whole (sym c.head.ensures ∙ c.in_ok-cell.was)).inside

pub transfer-requires-clause-apart : goal.transfer-requires-clause-apart
transfer-requires-clause-apart g c =
    let f = front _ c.args.self.now.whole (sym c.head.ensures ∙ c.in_ok-cell.was) in
    λ e. c.requires.apart (sym f.owner ∙ e)

pub returns-clause-value : goal.returns-clause-value
returns-clause-value g c = sym (front-is _ _ _ c.requires.from
    ∙ ap cell_of_number (sym c.head.ensures ∙ c.in_ok-cell.was))

pub returns-clause-after : goal.returns-clause-after
returns-clause-after g c =
    let f = front _ c.args.self.now.whole (sym c.head.ensures ∙ c.in_ok-cell.was) in
    rw (c.transfer.ensures.entries, c.transfer.ensures.lists, f.owner)
    (content-moved _ c.args.self.now.whole f c.requires.from c.requires.to c.requires.apart)
