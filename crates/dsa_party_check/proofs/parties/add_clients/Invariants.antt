use Rattle.dsa_party_check.proofs.parties.add_clients.Given as goal
use Rattle.std.proofs.Common.{◌≡◌, ◌++◌, drop, map}
use Rattle.serde_json.specs.View.{view}
use Rattle.dsa_plans.specs.PartyLabels.{numbered_from}
use Rattle.dsa_party_check.specs.Complaints.{flawed}
use Rattle.dsa_party_check.specs.PartyFlaws.{client_flaws}

-- it is left to add the others
abbrev pub invariant-loop-place : goal.invariant-loop-place
invariant-loop-place l =
    map flawed l.flaws.items
    ++ numbered_from client_flaws l.place (map view (drop l.place l.clients))
    ≡ map flawed l.initial.flaws.items ++ numbered_from client_flaws 0 (map view l.clients)
