use Rattle.dsa_plans.proofs.plans.add_clients.Given as goal
use Rattle.std.proofs.Common.{◌≡◌, drop, map}
use Rattle.serde_json.specs.View.{view}
use Rattle.dsa_plans.specs.{Plans.{parties_onto}, Submitters.{client_onto}}

-- it is left to add the others
abbrev pub invariant-loop-i : goal.invariant-loop-i
invariant-loop-i l =
    parties_onto client_onto l.i (l.entries.items, l.clients.items) (map view (drop l.i l.objects))
    ≡ parties_onto client_onto 0 (l.initial.entries.items, l.initial.clients.items) (map view l.objects)
