use Rattle.std.proofs.Common.{take, map}
use Rattle.serde_json.specs.View.{view}
use Rattle.dsa_expand.specs.Expansion.{AreLikely}
use Rattle.dsa_expand.proofs.expansion.first_unlikely.Given as goal

abbrev pub invariant-loop-i : goal.invariant-loop-i
invariant-loop-i l = AreLikely (take l.i (map view l.steps))
