use Rattle.std.proofs.Common.{List, map, take}
use Rattle.serde_json.specs.View.{view}
use Rattle.dsa_scenario.specs.declared.actions.Action.{Action}
use Rattle.dsa_conform.specs.{Seen.{Seen}, Run.{AreRead}, AsSeen.{seen_before, IsPageTo}}
use Rattle.dsa_conform.proofs.retelling.retell.Given as goal

-- the page is of the steps before, which show what was seen of the first
abbrev pub invariant-loop-i : goal.invariant-loop-i
invariant-loop-i g l =
    (observed : List (Action × Seen)) → AreRead (map view l.head.steps.now) observed
    → IsPageTo (g.D.RenderSteps.is_page l.what) l.head.caps l.head.capacity
    (seen_before l.count (take l.i observed)) l.i
    l.way.device l.way.tickets.items l.page
