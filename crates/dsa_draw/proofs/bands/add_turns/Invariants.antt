use Rattle.dsa_draw.proofs.bands.add_turns.Given as goal
use Rattle.std.proofs.Common.{◌≡◌, ◌++◌, drop, string_bytes}
use Rattle.dsa_draw.specs.Bands.{turns, levels_of}

abbrev pub invariant-loop-moment : goal.invariant-loop-moment
invariant-loop-moment l =
    string_bytes l.text ++ turns l.scale.bottom l.scale.most l.step l.before
    (drop l.moment-index (levels_of l.band l.line l.moments))
    ≡ string_bytes l.initial.text ++ turns l.scale.bottom l.scale.most 0 0 (levels_of l.band l.line l.moments)
