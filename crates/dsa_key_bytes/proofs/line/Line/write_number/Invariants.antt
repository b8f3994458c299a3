use Rattle.std.proofs.Common.{◌≡◌, ◌∷◌, []}
use Rattle.dsa_key_bytes.specs.Line.{with_numbers}
use Rattle.dsa_key_bytes.proofs.line.Line.write_number.Given as goal

abbrev pub invariant-loop-rest : goal.invariant-loop-rest
invariant-loop-rest l = with_numbers l.self (l.rest ∷ []) ≡ with_numbers l.initial.self (l.number ∷ [])

abbrev pub decreases-loop-rest : goal.decreases-loop-rest
decreases-loop-rest l = l.rest
