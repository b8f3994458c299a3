use Rattle.dsa_draw.proofs.drawing.add_engines.Goals as goal
use Rattle.dsa_draw.proofs.Changes.{engined, engined_to}

pub loop-engine-preserved : goal.loop-engine-preserved
loop-engine-preserved c = record {
  text = engined c.loop-engine.engine c.args.engines c.args.extent c.loop-engine.top _ c.args.moments.now
      c.args.bars.now _ _ _ c.loop-engine-test.true c.in_ok-top.ensures.text c.in_ok-top.ensures.end
      c.loop-engine.invariant.text;
  end = engined_to c.loop-engine.engine c.args.engines c.args.extent c.loop-engine.top _ c.args.moments.now
      c.args.bars.now _ c.loop-engine-test.true c.in_ok-top.ensures.end c.loop-engine.invariant.end;
}
