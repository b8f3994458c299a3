use Rattle.std.proofs.Common.{◌≤◌}
use Rattle.dsa_check.specs.Places.{IsSpot}
use Rattle.dsa_check.proofs.remarks.flaw_of.Given as goal

abbrev pub invariant-loop-turn : goal.invariant-loop-turn
invariant-loop-turn l = record {
  spot : IsSpot l.bytes l.spot;
  at : l.spot.at ≤ l._turn;
}
