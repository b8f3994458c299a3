use Rattle.dsa_parties.proofs.making.are_parts.Given as goal
use Rattle.std.proofs.Common.{◌≡◌, drop}
use Rattle.dsa_parties.specs.Scripts.{are_parts}

-- it is left to see that the others stand behind these
abbrev pub invariant-loop-part : goal.invariant-loop-part
invariant-loop-part l = are_parts 0 l.end l.parts ≡ are_parts l.from l.end (drop l.part-index l.parts)
