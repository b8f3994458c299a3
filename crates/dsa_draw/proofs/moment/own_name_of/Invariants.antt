use Rattle.dsa_draw.proofs.moment.own_name_of.Given as goal
use Rattle.std.proofs.Common.{◌≡◌, drop, map}
use Rattle.dsa_named.specs.Names.{own_of}
use Rattle.dsa_draw.specs.Moments.{own_name_of}

abbrev pub invariant-loop-own : goal.invariant-loop-own
invariant-loop-own l =
    own_name_of l.name (map own_of (drop l.own-index l.names)) ≡ own_name_of l.name (map own_of l.names)
