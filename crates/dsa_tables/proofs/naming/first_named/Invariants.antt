use Rattle.dsa_tables.proofs.naming.first_named.Given as goal
use Rattle.std.proofs.Common.{map, string_bytes, take}
use Rattle.dsa_tables.specs.Naming.{HasNoRowNamed}

-- none of those before is called so
abbrev pub invariant-loop-row : goal.invariant-loop-row
invariant-loop-row l =
    HasNoRowNamed (map string_bytes l.labels) (map string_bytes l.acts) (take l.row-index l.rows) l.name
