use Rattle.dsa_conform.proofs.observed.first_unread.Given as goal
use Rattle.std.proofs.Common.{List, map, take}
use Rattle.serde_json.specs.View.{view}
use Rattle.dsa_scenario.specs.declared.actions.Action.{Action}
use Rattle.dsa_conform.specs.{Seen.{Seen}, Run.{AreRead}}

-- those before are read
abbrev pub invariant-loop-i : goal.invariant-loop-i
invariant-loop-i l = (done : List (Action × Seen)) × AreRead (take l.i (map view l.steps)) done
