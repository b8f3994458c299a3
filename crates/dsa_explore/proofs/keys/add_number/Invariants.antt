use Rattle.std.proofs.Common.{◌≡◌, ◌++◌}
use Rattle.dsa_key_bytes.specs.Numbers.{number_bytes}
use Rattle.dsa_explore.proofs.keys.add_number.Given as goal

-- what was added and the bytes of what is left are all
abbrev pub invariant-loop-rest : goal.invariant-loop-rest
invariant-loop-rest l = l.out.items ++ number_bytes l.rest ≡ l.fn.out.items ++ number_bytes l.fn.number

abbrev pub decreases-loop-rest : goal.decreases-loop-rest
decreases-loop-rest l = l.rest
