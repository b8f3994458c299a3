use Rattle.dsa_plans.proofs.labels.entry_labels.Given as goal
use Rattle.std.proofs.Common.{◌≡◌, ◌++◌, map, drop, string_bytes, codes}
use Rattle.serde_json.specs.View.{view}
use Rattle.dsa_plans.specs.PartyLabels.{client_labels, items_or, numbered_from}

-- it is left to add the others
abbrev pub invariant-loop-party : goal.invariant-loop-party
invariant-loop-party l =
    map string_bytes l.labels.items
    ++ numbered_from client_labels l.party (map view (drop l.party l.client-items))
    ≡ map string_bytes l.initial.labels.items
    ++ numbered_from client_labels 0 (items_or (codes "clients") (view l.object))
