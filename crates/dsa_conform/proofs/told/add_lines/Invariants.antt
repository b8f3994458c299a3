use Rattle.std.proofs.Common.{◌≡◌, ◌++◌, string_bytes, flat_map, take}
use Rattle.dsa_conform.proofs.told.add_lines.Given as goal

abbrev pub invariant-loop-line : goal.invariant-loop-line
invariant-loop-line l = string_bytes l.text
    ≡ string_bytes l.initial.text ++ flat_map (λ line. string_bytes line.text) (take l.line-index l.lines)
