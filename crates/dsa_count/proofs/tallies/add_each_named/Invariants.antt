use Rattle.dsa_count.proofs.tallies.add_each_named.Given as goal
use Rattle.std.proofs.Common.{◌≡◌, ◌++◌, string_bytes, flat_map}
use Rattle.dsa_base.specs.Numbers.{numbers_below}
use Rattle.dsa_count.specs.Tallies.{named_line}

abbrev pub invariant-loop-number : goal.invariant-loop-number
invariant-loop-number l = string_bytes l.text
    ≡ string_bytes l.initial.text ++ flat_map (named_line l.party l.submissions) (numbers_below l.number)
