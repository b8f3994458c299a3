use Rattle.dsa_count.proofs.peaks.raised.Goals as goal
use Rattle.std.proofs.Common.{ℕ, arith, get_or, max}
use Rattle.dsa_base.proofs.NumberLists.{get_or-each}
use Rattle.dsa_count.specs.Peaks.{gauged}
use Rattle.dsa_count.proofs.Texts.{each-more}

pub loop-number-preserved : goal.loop-number-preserved
loop-number-preserved g c =
    each-more (λ (n : ℕ). max (get_or c.args.peaks.now n 0) (gauged c.args.device.now c.args.gauge n))
    c.loop-number.number _ _ c.loop-number.invariant
    (rw (c.max.ensures, c.peak_at.ensures, c.gauged.ensures) at c.in_ok-push.ensures.items)

pub returns : goal.returns
returns g c = λ n small. rw c.loop-number.invariant
    (get_or-each (λ (k : ℕ). max (get_or c.args.peaks.now k 0) (gauged c.args.device.now c.args.gauge k))
    c.loop-number.number n 0 (omega arith))
