use Rattle.std.proofs.Common.{◌≤◌, arith, subst}
use Rattle.dsa_conform.specs.Allowed.{queue_taken}
use Rattle.dsa_conform.specs.declared.told.Line.{Line}
use Rattle.dsa_conform.proofs.told.place_of.Goals as goal
use Rattle.dsa_conform.proofs.Listed.{one_more, place_at_end}

pub loop-k-preserved : goal.loop-k-preserved
loop-k-preserved c =
    let below : queue_taken c.index-lines-k.result.entry ≤ c.args.queue =
    omega (arith, c.queue_of_line.ensures, c.if-queue-queue_of_line.false) in
    one_more (λ (y : Line). queue_taken y.entry ≤ c.args.queue) c.args.lines.now c.loop-k.k c.index-lines-k.result
    c.loop-k-test.true c.loop-k.invariant
    (subst (λ (y : Line). queue_taken y.entry ≤ c.args.queue) c.index-lines-k.is below)

pub returns : goal.returns
returns c =
    place_at_end c.args.lines.now c.loop-k.k c.args.queue (omega (arith, c.loop-k-test.false)) c.loop-k.invariant
