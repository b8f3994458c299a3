use Rattle.dsa_plans.proofs.plans.add_administrators.Given as goal
use Rattle.std.proofs.Common.{◌≡◌, ◌+◌, drop, map}
use Rattle.serde_json.specs.View.{view}
use Rattle.dsa_plans.specs.{Plans.{parties_onto}, Acting.{administrator_onto}}

-- it is left to add the others
abbrev pub invariant-loop-i : goal.invariant-loop-i
invariant-loop-i l =
    parties_onto administrator_onto (l.first + l.i) (l.acts.items, l.administrators.items)
    (map view (drop l.i l.objects))
    ≡ parties_onto administrator_onto l.first (l.initial.acts.items, l.initial.administrators.items)
    (map view l.objects)
