use Rattle.dsa_parties.proofs.making.are_client_parts.Given as goal
use Rattle.std.proofs.Common.{◌≡◌, map, drop}
use Rattle.dsa_parties.specs.declared.script.ClientScript.{ClientScript}
use Rattle.dsa_parties.specs.Scripts.{are_parts}

-- it is left to see that the others stand behind these
abbrev pub invariant-loop-client : goal.invariant-loop-client
invariant-loop-client l =
    are_parts 0 l.end (map (λ (client : ClientScript). client.part) l.clients)
    ≡ are_parts l.from l.end (map (λ (client : ClientScript). client.part) (drop l.client-index l.clients))
