use Rattle.dsa_count.proofs.fates.add_below.Given as goal
use Rattle.std.proofs.Common.{◌≡◌, ◌++◌, string_bytes, flat_map}
use Rattle.dsa_base.specs.Numbers.{numbers_below}
use Rattle.dsa_count.specs.Fates.{numbered_part}

abbrev pub invariant-loop-number : goal.invariant-loop-number
invariant-loop-number l = string_bytes l.text
    ≡ string_bytes l.initial.text ++ flat_map (numbered_part l.rows l.numbered) (numbers_below l.number)
