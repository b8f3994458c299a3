use Rattle.dsa_scenario.proofs.document.first_bad.Given as goal
use Rattle.std.proofs.Common.{map, take}
use Rattle.serde_json.specs.View.{view}
use Rattle.dsa_scenario.specs.Document.{AreSteps}

abbrev pub invariant-loop-i : goal.invariant-loop-i
invariant-loop-i l = AreSteps (take l.i (map view l.steps))
