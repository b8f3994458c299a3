use Rattle.dsa_draw.proofs.page.add_again.Goals as goal
use Rattle.dsa_draw.specs.Bands.{again_at_text}
use Rattle.dsa_draw.proofs.RowTexts.{told_more}

pub loop-place-preserved : goal.loop-place-preserved
loop-place-preserved c =
    told_more (again_at_text c.args.name.now c.args.number c.args.top) c.loop-place.place _ _ _ c.loop-place.invariant
    c.in_ok-add_again_at.ensures
