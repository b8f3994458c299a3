use Rattle.dsa_count.proofs.tallies.add_each_way.Given as goal
use Rattle.std.proofs.Common.{◌≡◌, ◌++◌, string_bytes, flat_map, take}
use Rattle.dsa_count.specs.Tallies.{turned_part}

abbrev pub invariant-loop-way : goal.invariant-loop-way
invariant-loop-way l =
    string_bytes l.text
    ≡ string_bytes l.initial.text
    ++ flat_map (turned_part l.party l.number l.submissions) (take l.way-index l.ways)
