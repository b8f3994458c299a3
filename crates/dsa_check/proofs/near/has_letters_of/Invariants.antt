use Rattle.std.proofs.Common.{◌≡◌, bytes_eq, length}
use Rattle.dsa_check.specs.Reasons.{letters_of}
use Rattle.dsa_check.proofs.near.has_letters_of.Given as goal

abbrev pub invariant-loop-letter : goal.invariant-loop-letter
invariant-loop-letter l =
    bytes_eq (letters_of l.left) (letters_of l.other_left) ≡ bytes_eq (letters_of l.name) (letters_of l.other)

abbrev pub decreases-loop-letter : goal.decreases-loop-letter
decreases-loop-letter l = length l.left
