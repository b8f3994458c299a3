use Rattle.dsa_draw.proofs.engines.has_steps.Given as goal
use Rattle.std.proofs.Common.{◌≡◌, drop}
use Rattle.dsa_draw.specs.Engines.{has_steps}

abbrev pub invariant-loop-moment : goal.invariant-loop-moment
invariant-loop-moment l = has_steps l.engine (drop l.moment-index l.moments) ≡ has_steps l.engine l.moments
