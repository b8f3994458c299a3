use Rattle.dsa_draw.proofs.range.number_from.Given as goal
use Rattle.std.proofs.Common.{◌≡◌, drop}
use Rattle.dsa_draw.specs.Ranges.{number_from}

abbrev pub invariant-loop-byte : goal.invariant-loop-byte
invariant-loop-byte l = number_from l.number (drop l.byte-index l.digits) ≡ number_from l.initial.number l.digits
