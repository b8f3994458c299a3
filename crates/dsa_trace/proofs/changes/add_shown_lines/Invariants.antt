use Rattle.dsa_trace.proofs.changes.add_shown_lines.Given as goal
use Rattle.std.proofs.Common.{◌≡◌, ◌+◌, ◌++◌, string_bytes, flat_map}
use Rattle.dsa_base.specs.Numbers.{numbers_below}
use Rattle.dsa_trace.specs.Changes.{shown_line, line_texts}

abbrev pub invariant-loop-place : goal.invariant-loop-place
invariant-loop-place l = string_bytes l.text
    ≡ string_bytes l.initial.text
    ++ flat_map (λ place. shown_line (line_texts l.was) (line_texts l.now) (l.first + place)) (numbers_below l.place)
