use Rattle.std.proofs.Common.{List, map, take}
use Rattle.serde_json.specs.View.{view}
use Rattle.dsa_scenario.specs.declared.actions.Action.{Action}
use Rattle.dsa_conform.specs.{Seen.{Seen}, Run.{AreRead, IsFollowedTo}}
use Rattle.dsa_conform.proofs.alone.count_alone.Given as goal

-- the device has come by the steps before, and answered as was seen
abbrev pub invariant-loop-i : goal.invariant-loop-i
invariant-loop-i l =
    (observed : List (Action × Seen)) → AreRead (map view l.head.steps.now) observed
    → IsFollowedTo l.head.caps l.head.capacity (take l.i observed) l.i l.way.device l.way.tickets.items
