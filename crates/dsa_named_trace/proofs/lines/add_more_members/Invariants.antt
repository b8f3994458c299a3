use Rattle.dsa_named_trace.proofs.lines.add_more_members.Given as goal
use Rattle.std.proofs.Common.{◌≡◌, ◌++◌, codes, flat_map, map, string_bytes, take}
use Rattle.dsa_named.specs.Names.{own_of}
use Rattle.dsa_named_trace.specs.Lines.{own_member}

abbrev pub invariant-loop-own : goal.invariant-loop-own
invariant-loop-own l = string_bytes l.text
    ≡ string_bytes l.initial.text ++ flat_map (own_member (codes ",\"")) (map own_of (take l.own-index l.names))
