use Rattle.std.proofs.Common.{◌≡◌, ◌++◌, take}
use Rattle.std.specs.List.{flat_map}
use Rattle.dsa_key_bytes.specs.Numbers.{number_bytes}
use Rattle.dsa_explore.proofs.keys.add_numbers.Given as goal

-- the bytes of the numbers before were added
abbrev pub invariant-loop-number : goal.invariant-loop-number
invariant-loop-number l = l.out.items ≡ l.fn.out.items ++ flat_map number_bytes (take l.number-index l.numbers)
