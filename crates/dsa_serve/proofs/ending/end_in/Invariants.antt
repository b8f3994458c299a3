use Rattle.dsa_serve.proofs.ending.end_in.Given as goal
use Rattle.std.proofs.Common.{◌≡◌, true, take}
use Rattle.dsa_serve.specs.Input.{has_no_end, inside_after}

-- the bytes before have not ended the document
abbrev pub invariant-loop-at : goal.invariant-loop-at
invariant-loop-at l =
    (has_no_end l.initial.inside (take l.at l.piece) ≡ true)
    × (l.inside ≡ inside_after l.initial.inside (take l.at l.piece))
