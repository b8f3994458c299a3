use Rattle.dsa_count.proofs.submissions.above.Goals as goal
use Rattle.dsa_count.proofs.Gathering.{above-more, above-end}

pub loop-made-preserved : goal.loop-made-preserved
loop-made-preserved c = record {
  so_far = above-more c.args.party c.args.submissions.now c.loop-made.made-index c.loop-made.most _ _ _
      c.loop-made-test.true c.raised_by-most.ensures c.loop-made.invariant.so_far;
}

pub returns : goal.returns
returns c =
    above-end c.args.party c.args.submissions.now c.loop-made.made-index c.loop-made.most _ c.loop-made-test.false
    c.loop-made.invariant.so_far
