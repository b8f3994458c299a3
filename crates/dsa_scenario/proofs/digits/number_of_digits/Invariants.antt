use Rattle.dsa_scenario.proofs.digits.number_of_digits.Given as goal
use Rattle.dsa_scenario.proofs.Numbers.{AreRead}

abbrev pub invariant-loop-byte : goal.invariant-loop-byte
invariant-loop-byte l = AreRead l.bytes l.byte-index l.number
