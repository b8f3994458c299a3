use Rattle.dsa_party_check.proofs.odd_keys.add_administrators.Given as goal
use Rattle.std.proofs.Common.{◌≡◌, ◌++◌, drop, map}
use Rattle.serde_json.specs.View.{view}
use Rattle.dsa_plans.specs.PartyLabels.{numbered_from}
use Rattle.dsa_party_check.specs.Complaints.{flawed}
use Rattle.dsa_party_check.specs.OddKeys.{odd_administrator}

-- it is left to add the others
abbrev pub invariant-loop-place : goal.invariant-loop-place
invariant-loop-place l =
    map flawed l.odd.items
    ++ numbered_from (odd_administrator l.clients) l.place (map view (drop l.place l.administrators))
    ≡ map flawed l.initial.odd.items ++ numbered_from (odd_administrator l.clients) 0 (map view l.administrators)
