use Rattle.dsa_tables.proofs.ends.add_more_endings.Given as goal
use Rattle.std.proofs.Common.{◌≡◌, ◌++◌, string_bytes, take, flat_map, map, codes}
use Rattle.dsa_tables.specs.Ends.{ending_words}

abbrev pub invariant-loop-ending : goal.invariant-loop-ending
invariant-loop-ending l = string_bytes l.text
    ≡ string_bytes l.initial.text
    ++ flat_map (ending_words (map string_bytes l.labels) (map string_bytes l.acts) (codes ", "))
    (take l.ending-index l.endings)
