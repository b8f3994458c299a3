use Rattle.dsa_count.proofs.fates.add_below.Goals as goal
use Rattle.dsa_count.proofs.Texts.{told-more}
use Rattle.dsa_count.specs.Fates.{numbered_part}

pub loop-number-preserved : goal.loop-number-preserved
loop-number-preserved c = told-more (numbered_part c.args.rows.now c.args.numbered) c.loop-number.number _ _ _
    c.loop-number.invariant (rw c.fate_numbered.ensures at c.in_ok-add_part.ensures)
