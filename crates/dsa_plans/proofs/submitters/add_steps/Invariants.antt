use Rattle.dsa_plans.proofs.submitters.add_steps.Given as goal
use Rattle.std.proofs.Common.{◌≡◌, drop, map}
use Rattle.serde_json.specs.View.{view}
use Rattle.dsa_plans.specs.{Said.{each_onto}, Submitters.{step_onto}}

-- it is left to add the others
abbrev pub invariant-loop-step : goal.invariant-loop-step
invariant-loop-step l =
    each_onto step_onto l.entries.items (map view (drop l.step-index l.steps))
    ≡ each_onto step_onto l.initial.entries.items (map view l.steps)
