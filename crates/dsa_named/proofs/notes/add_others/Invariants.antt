use Rattle.dsa_named.proofs.notes.add_others.Given as goal
use Rattle.std.proofs.Common.{◌≡◌, ◌++◌, string_bytes, take, flat_map, map, codes}
use Rattle.dsa_named.specs.Names.{own_of}
use Rattle.dsa_named.specs.Notes.{own_words}

abbrev pub invariant-loop-own : goal.invariant-loop-own
invariant-loop-own l = string_bytes l.text
    ≡ string_bytes l.initial.text ++ flat_map (own_words (codes ", ")) (map own_of (take l.own-index l.names))
