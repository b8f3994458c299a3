use Rattle.dsa_explore.proofs.merging.merge_row.Goals as goal
use Rattle.std.proofs.Common.{◌≡◌, ◌∷◌, ◌∙◌, [], Some, ap, arith, subst, sym}
use Rattle.std.specs.Prelude.{IfSome, Option}
use Rattle.dsa_explore.specs.{declared.found.Found.{Found}, Walking.{AreMerged}}
use Rattle.dsa_explore.proofs.Merged.{merged-new, merged-same, merged-set}
use Rattle.dsa_explore.proofs.Endings.{at-place}

pub returns-in_default : goal.returns-in_default
returns-in_default c =
    subst (AreMerged c.args.rows.now.items (c.args.row ∷ [])) (sym c.in_ok-push.ensures.items)
    (merged-new c.args.rows.now.items c.args.row (rw (← c.as_slice.ensures.value) c.in_default.ensures.none))

pub returns-then-row-index : goal.returns-then-row-index
returns-then-row-index c =
    let rows = c.args.rows.now.items in
    let at = at-place rows c.in-Some.i c.index.result.now (rw (← c.as_slice.ensures.value) c.in-Some.ensures.inside)
    ∙ ap (λ r. Some r) (sym c.index.ensures) in
    let same = subst (λ (o : Option Found). IfSome o (λ row. row.finding ≡ c.args.row.finding)) at
    (rw (← c.as_slice.ensures.value) c.in-Some.ensures.same) in
    merged-set rows c.in-Some.i c.args.row c.index.result.now at same (omega (arith, c.if-row-index.true))

pub returns-else-row-index : goal.returns-else-row-index
returns-else-row-index c =
    let rows = c.args.rows.now.items in
    let at = at-place rows c.in-Some.i c.index.result.now (rw (← c.as_slice.ensures.value) c.in-Some.ensures.inside)
    ∙ ap (λ r. Some r) (sym c.index.ensures) in
    let same = subst (λ (o : Option Found). IfSome o (λ row. row.finding ≡ c.args.row.finding)) at
    (rw (← c.as_slice.ensures.value) c.in-Some.ensures.same) in
    merged-same rows c.in-Some.i c.args.row c.index.result.now at same (omega (arith, c.if-row-index.false))
