use Rattle.dsa_expand.proofs.values.set_of.Goals as goal
use Rattle.std.proofs.Common.{arith}
use Rattle.dsa_expand.proofs.Sets.{set_more, set_small}

pub loop-number-preserved : goal.loop-number-preserved
loop-number-preserved c =
    let inside = c.in_ok-place.ensures.inside in
    record {
      set = set_more c.args.first c.args.size c.loop-number.set c.in_ok-place.place c.args.numbers.now
          c.loop-number.number-index c.number-item.result _ c.loop-number-test.true c.number-item.is
          c.in_ok-place.ensures.place (omega (arith, inside, c.requires.size)) c.loop-number.invariant.set;
      small = set_small c.args.size c.loop-number.set c.in_ok-place.place inside (omega (arith, c.requires.size))
          c.loop-number.invariant.small;
    }
