use Rattle.dsa_scenario.proofs.members.leaf_at.Given as goal
use Rattle.std.proofs.Common.{◌≤◌, length, drop}
use Rattle.dsa_scenario.proofs.Tokens.{HasNone}

abbrev pub invariant-loop-left : goal.invariant-loop-left
invariant-loop-left l = (l.left ≤ length l.members) × HasNone l.key (drop l.left l.members)

abbrev pub decreases-loop-left : goal.decreases-loop-left
decreases-loop-left l = l.left
