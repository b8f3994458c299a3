use Rattle.dsa_draw.proofs.drawing.add_columns.Given as goal
use Rattle.std.proofs.Common.{◌≡◌, ◌++◌, drop, string_bytes}
use Rattle.dsa_draw.specs.Columns.{columns_text}

abbrev pub invariant-loop-moment : goal.invariant-loop-moment
invariant-loop-moment l =
    string_bytes l.text ++ columns_text l.height l.column (drop l.moment-index l.moments)
    ≡ string_bytes l.initial.text ++ columns_text l.height 0 l.moments
