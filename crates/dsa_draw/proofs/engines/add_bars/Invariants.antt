use Rattle.dsa_draw.proofs.engines.add_bars.Given as goal
use Rattle.std.proofs.Common.{◌≡◌, ◌++◌, drop, string_bytes}
use Rattle.dsa_draw.specs.Engines.{bars_text}

abbrev pub invariant-loop-bar : goal.invariant-loop-bar
invariant-loop-bar l =
    string_bytes l.text ++ bars_text l.engine l.lanes l.moments (drop l.bar-index l.bars)
    ≡ string_bytes l.initial.text ++ bars_text l.engine l.lanes l.moments l.bars
