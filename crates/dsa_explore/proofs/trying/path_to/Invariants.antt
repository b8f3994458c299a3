use Rattle.std.proofs.Common.{◌≡◌, ◌+◌, ◌≤◌, List, Some}
use Rattle.std.specs.Prelude.{slice_get}
use Rattle.dsa_keys.specs.Parties.{World, Stored}
use Rattle.dsa_parties.specs.{declared.places.Move.{Move}, Standing.{Standing}}
use Rattle.dsa_explore.specs.{Search.{Space}, Ways.{TellWays}}
use Rattle.dsa_explore.proofs.Ways.{IsPart}
use Rattle.dsa_explore.proofs.trying.path_to.Given as goal

-- the tries so far lead from where the search for the way stands, which is earlier with each of them
abbrev pub invariant-loop : goal.invariant-loop
invariant-loop l = (space : Space Standing Move) (first : World Standing) (table : List (Stored Standing))
    (x : Stored Standing) → TellWays space first l.nodes table → slice_get table l.number ≡ Some x
    → (l.at + l.counter ≤ l.number) × IsPart space table l.at l.path.items x
