use Rattle.dsa_draw.proofs.active.waits_of.Given as goal
use Rattle.std.proofs.Common.{◌≡◌, ◌++◌, drop}
use Rattle.dsa_draw.specs.Active.{waits_from}

abbrev pub invariant-loop-place : goal.invariant-loop-place
invariant-loop-place l = l.waits.items ++ waits_from l.step (drop l.place l.moments) ≡ waits_from 0 l.moments
