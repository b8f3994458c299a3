use Rattle.dsa_draw.proofs.active.end_from.Given as goal
use Rattle.std.proofs.Common.{◌≡◌, drop}
use Rattle.dsa_draw.specs.Active.{end_from}

abbrev pub invariant-loop-moment : goal.invariant-loop-moment
invariant-loop-moment l = end_from l.step (drop l.moment-index l.later) ≡ end_from l.first l.later
