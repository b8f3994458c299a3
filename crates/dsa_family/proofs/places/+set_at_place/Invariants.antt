use Rattle.std.proofs.Common.{length}
use Rattle.dsa_family.proofs.places.+set_at_place.Given as goal

abbrev pub decreases-set_at_place : goal.decreases-set_at_place
decreases-set_at_place l = length l.keys.now
