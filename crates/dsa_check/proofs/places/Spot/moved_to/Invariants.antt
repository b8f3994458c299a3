use Rattle.std.proofs.Common.{◌≡◌}
use Rattle.dsa_check.specs.Places.{IsSpot}
use Rattle.dsa_check.proofs.places.Spot.moved_to.Given as goal

abbrev pub invariant-loop-i : goal.invariant-loop-i
invariant-loop-i l = record {
  spot : IsSpot l.bytes l.spot;
  at : l.spot.at ≡ l.i;
}
