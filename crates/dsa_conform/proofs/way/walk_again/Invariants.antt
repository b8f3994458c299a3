use Rattle.std.proofs.Common.{◌≤◌, List, take}
use Rattle.dsa_scenario.specs.declared.actions.Action.{Action}
use Rattle.dsa_conform.specs.{Seen.{Seen}, Run.{AreRead, IsFollowedTo}, Sights.{steps_counted}}
use Rattle.dsa_conform.proofs.way.walk_again.Given as goal

-- the device has come by the steps before
abbrev pub invariant-loop-i : goal.invariant-loop-i
invariant-loop-i l = (l.i ≤ l.count) × ((observed : List (Action × Seen)) → AreRead (steps_counted l.sights) observed
    → IsFollowedTo l.sights.head.now.caps l.sights.head.now.capacity (take l.i observed) l.i l.way.device
    l.way.tickets.items)
