use Rattle.dsa_conform.proofs.told.lines_of.Goals as goal
use Rattle.std.proofs.Common.{◌∙◌, ◌++◌, ◌∷◌, [], sym, ap, subst, take}
use Rattle.std.proofs.lemmas.List.{take_more}
use Rattle.dsa_conform.specs.ToldLines.{AreLinesTold}
use Rattle.dsa_conform.proofs.Placing.{more_lines}

pub loop-told-preserved : goal.loop-told-preserved
loop-told-preserved c =
    let ts = c.args.tolds.now in
    let i = c.loop-told.told-index in
    let x = c.told-item.result in
    subst (λ l. AreLinesTold l c.add_told.new.lines.items)
    (sym (take_more ts i x c.loop-told-test.true ∙ ap (λ y. take i ts ++ y ∷ []) (sym c.told-item.is)))
    (more_lines (take i ts) x _ _ c.loop-told.invariant c.in_ok-add_told.ensures)
