use Rattle.dsa_plans.proofs.plans.add_engines.Given as goal
use Rattle.std.proofs.Common.{◌≡◌, drop, map}
use Rattle.serde_json.specs.View.{view}
use Rattle.dsa_plans.specs.Said.{each_onto, read_onto, whole_below}

-- it is left to add the others
abbrev pub invariant-loop-item : goal.invariant-loop-item
invariant-loop-item l =
    each_onto (read_onto (whole_below l.count)) l.engines.items (map view (drop l.item-index l.items))
    ≡ each_onto (read_onto (whole_below l.count)) l.initial.engines.items (map view l.items)
