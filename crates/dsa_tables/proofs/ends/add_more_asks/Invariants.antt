use Rattle.dsa_tables.proofs.ends.add_more_asks.Given as goal
use Rattle.std.proofs.Common.{◌≡◌, ◌++◌, string_bytes, take, flat_map, map, codes}
use Rattle.dsa_tables.specs.Ends.{ask_words}

abbrev pub invariant-loop-ask : goal.invariant-loop-ask
invariant-loop-ask l = string_bytes l.text
    ≡ string_bytes l.initial.text
    ++ flat_map (ask_words (map string_bytes l.labels) (map string_bytes l.acts) (codes " and "))
    (take l.ask-index l.asks)
