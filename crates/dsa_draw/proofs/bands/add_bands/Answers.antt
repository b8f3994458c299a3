use Rattle.dsa_draw.proofs.bands.add_bands.Goals as goal
use Rattle.dsa_draw.proofs.Turns.{banded, banded_at_end, banded_to, banded_to_end}

pub loop-band-preserved : goal.loop-band-preserved
loop-band-preserved c = record {
  text = banded c.args.bands.now c.loop-band.band-index _ c.args.steps c.loop-band.top _ c.args.moments.now _ _ _
      c.loop-band-test.true c.in_ok-top.ensures.text c.in_ok-top.ensures.next c.loop-band.invariant.text;
  end = banded_to c.args.bands.now c.loop-band.band-index _ c.loop-band.top _ c.args.moments.now _
      c.loop-band-test.true c.in_ok-top.ensures.next c.loop-band.invariant.end;
}

pub returns : goal.returns
returns c = record {
  text = banded_at_end c.args.bands.now c.loop-band.band-index c.args.steps c.loop-band.top c.args.moments.now _ _
      c.loop-band-test.false c.loop-band.invariant.text;
  end = banded_to_end c.args.bands.now c.loop-band.band-index c.loop-band.top c.args.moments.now _
      c.loop-band-test.false c.loop-band.invariant.end;
}
