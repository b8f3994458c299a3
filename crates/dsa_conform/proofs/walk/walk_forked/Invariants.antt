use Rattle.std.proofs.Common.{List, take}
use Rattle.dsa_scenario.specs.declared.actions.Action.{Action}
use Rattle.dsa_conform.specs.{Seen.{Seen}, Sights.{steps_counted}, Ways.{AreFollowed}}
use Rattle.dsa_conform.proofs.Steps.{IsCountedTo}
use Rattle.dsa_conform.proofs.walk.walk_forked.Given as goal

-- the devices may each be the one that was seen so far, and so many answers were seen
abbrev pub invariant-loop-i : goal.invariant-loop-i
invariant-loop-i l =
    (observed : List (Action × Seen)) × IsCountedTo (steps_counted l.sights) observed l.i l.answers
    × AreFollowed l.sights.head.now.caps l.sights.head.now.capacity (take l.i observed) l.i l.ways.items
