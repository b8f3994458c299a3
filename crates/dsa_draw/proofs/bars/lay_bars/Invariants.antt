use Rattle.dsa_draw.proofs.bars.lay_bars.Given as goal
use Rattle.std.proofs.Common.{◌≡◌, [], ◌++◌, drop}
use Rattle.dsa_draw.specs.Bars.{in_lanes, all_lanes}

abbrev pub invariant-loop-bar : goal.invariant-loop-bar
invariant-loop-bar l = record {
  laid : l.laid.items ++ in_lanes l.engine l.members l.last l.lanes.items (drop l.bar-index l.bars)
      ≡ in_lanes l.engine l.members l.last [] l.bars;
  lanes : all_lanes l.engine l.members l.last l.lanes.items (drop l.bar-index l.bars)
      ≡ all_lanes l.engine l.members l.last [] l.bars;
}
