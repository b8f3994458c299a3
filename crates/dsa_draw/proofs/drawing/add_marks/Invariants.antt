use Rattle.dsa_draw.proofs.drawing.add_marks.Given as goal
use Rattle.std.proofs.Common.{◌≡◌, ◌++◌, drop, string_bytes}
use Rattle.dsa_draw.specs.Rows.{marks_above_text}

abbrev pub invariant-loop-moment : goal.invariant-loop-moment
invariant-loop-moment l =
    string_bytes l.text ++ marks_above_text l.fates l.column l.ended (drop l.moment-index l.moments)
    ≡ string_bytes l.initial.text ++ marks_above_text l.fates 0 l.before l.moments
