use Rattle.dsa_draw.proofs.bars.Table.start_at.Goals as goal
use Rattle.std.proofs.Common.{◌∙◌, set, sym, ap, arith}
use Rattle.dsa_draw.specs.Bars.{started_at}
use Rattle.dsa_draw.proofs.Changes.{changed_inside, changed_past}

pub returns-then-place-len-clause-bars : goal.returns-then-place-len-clause-bars
returns-then-place-len-clause-bars c =
    let bars = c.args.self.now.bars.items in
    let changed = changed_inside (started_at c.args.step) bars c.args.place c.index_mut.result.now
    (omega (arith, c.if-place-len.true, c.len.ensures, c.args.self.now.bars.ok.0)) in
    sym (changed ∙ ap (λ b. set bars c.args.place (started_at c.args.step b)) (sym c.index_mut.ensures.value))

pub returns-else-place-len-clause-bars : goal.returns-else-place-len-clause-bars
returns-else-place-len-clause-bars c =
    sym (changed_past (started_at c.args.step) c.args.self.now.bars.items c.args.place
    (omega (arith, c.if-place-len.false, c.len.ensures, c.args.self.now.bars.ok.0)))
