use Rattle.std.proofs.Common.{List, map}
use Rattle.serde_json.specs.View.{view}
use Rattle.dsa_scenario.specs.declared.actions.Action.{Action}
use Rattle.dsa_conform.specs.Seen.{Seen}
use Rattle.dsa_conform.proofs.Steps.{IsCountedTo}
use Rattle.dsa_conform.proofs.every.count_seen.Given as goal

-- so many answers were seen of the steps before
abbrev pub invariant-loop-step : goal.invariant-loop-step
invariant-loop-step l = (observed : List (Action × Seen))
    × IsCountedTo (map view l.head.steps.now) observed l.step-index l.answers
