use Rattle.std.proofs.Common.{◌≡◌, ◌≤◌, length}
use Rattle.dsa_check.specs.Reasons.{letters_of}
use Rattle.dsa_check.proofs.near.next_letter.Given as goal

abbrev pub invariant-loop-first : goal.invariant-loop-first
invariant-loop-first l = record {
  same : letters_of l.left ≡ letters_of l.name;
  shorter : length l.left ≤ length l.name;
}

abbrev pub decreases-loop-first : goal.decreases-loop-first
decreases-loop-first l = length l.left
