use Rattle.dsa_draw.proofs.bars.free_place.Given as goal
use Rattle.std.proofs.Common.{◌≡◌, ◌+◌, drop}
use Rattle.dsa_draw.specs.Bars.{free_place}

abbrev pub invariant-loop-place : goal.invariant-loop-place
invariant-loop-place l = free_place l.begin (drop l.place l.lanes) + l.place ≡ free_place l.begin l.lanes
