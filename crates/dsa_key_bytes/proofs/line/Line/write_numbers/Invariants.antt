use Rattle.std.proofs.Common.{◌≡◌, take}
use Rattle.dsa_key_bytes.specs.Line.{with_numbers}
use Rattle.dsa_key_bytes.proofs.line.Line.write_numbers.Given as goal

abbrev pub invariant-loop-number : goal.invariant-loop-number
invariant-loop-number l = l.self ≡ with_numbers l.initial.self (take l.number-index l.numbers)
