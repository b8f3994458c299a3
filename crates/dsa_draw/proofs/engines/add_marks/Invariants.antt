use Rattle.dsa_draw.proofs.engines.add_marks.Given as goal
use Rattle.std.proofs.Common.{◌≡◌, ◌++◌, drop, string_bytes}
use Rattle.dsa_draw.specs.Engines.{engine_marks_text}

abbrev pub invariant-loop-moment : goal.invariant-loop-moment
invariant-loop-moment l =
    string_bytes l.text ++ engine_marks_text l.engine l.top l.step (drop l.moment-index l.moments)
    ≡ string_bytes l.initial.text ++ engine_marks_text l.engine l.top 0 l.moments
