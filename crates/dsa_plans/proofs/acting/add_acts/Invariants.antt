use Rattle.dsa_plans.proofs.acting.add_acts.Given as goal
use Rattle.std.proofs.Common.{◌≡◌, drop, map}
use Rattle.serde_json.specs.View.{view}
use Rattle.dsa_plans.specs.{Said.{each_onto, read_onto}, Acting.{act_said}}

-- it is left to add the others
abbrev pub invariant-loop-step : goal.invariant-loop-step
invariant-loop-step l =
    each_onto (read_onto act_said) l.acts.items (map view (drop l.step-index l.steps))
    ≡ each_onto (read_onto act_said) l.initial.acts.items (map view l.steps)
