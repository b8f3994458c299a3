use Rattle.dsa_draw.proofs.drawing.add_engines.Given as goal
use Rattle.std.proofs.Common.{◌≡◌, ◌-◌, ◌++◌, string_bytes}
use Rattle.std.specs.List.{range_with_len}
use Rattle.dsa_draw.specs.Engines.{engines_text, engines_end}

abbrev pub invariant-loop-engine : goal.invariant-loop-engine
invariant-loop-engine l = record {
  text : string_bytes l.text
      ++ engines_text l.extent l.top (range_with_len l.engine (l.engines - l.engine)) l.moments l.bars
      ≡ string_bytes l.initial.text
      ++ engines_text l.extent l.initial.top (range_with_len 0 l.engines) l.moments l.bars;
  end : engines_end l.extent l.top (range_with_len l.engine (l.engines - l.engine)) l.moments l.bars
      ≡ engines_end l.extent l.initial.top (range_with_len 0 l.engines) l.moments l.bars;
}
