use Rattle.std.proofs.Common.{length}
use Rattle.dsa_family.proofs.axes.+worlds_of.Given as goal

abbrev pub decreases-worlds_of : goal.decreases-worlds_of
decreases-worlds_of l = length l.axes.now
