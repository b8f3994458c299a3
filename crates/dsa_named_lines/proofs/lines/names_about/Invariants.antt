use Rattle.dsa_named_lines.proofs.lines.names_about.Given as goal
use Rattle.std.proofs.Common.{◌≡◌, ◌||◌, filter, map, take}
use Rattle.std.specs.{List.{list_any}, Prelude.{◌==◌}}
use Rattle.dsa_chosen.specs.Selected.{is_about}
use Rattle.dsa_named.specs.Names.{own_of}

abbrev pub invariant-loop-own : goal.invariant-loop-own
invariant-loop-own l = map own_of l.found.items
    ≡ filter (λ own. is_about own.0 l.entry l.fates || list_any (λ other. other == own.0) l.told)
    (map own_of (take l.own-index l.names))
