use Rattle.std.proofs.Common.{length}
use Rattle.dsa_seen.specs.Chains.{strings_of}
use Rattle.dsa_seen.proofs.Linked.{IsSearched}
use Rattle.dsa_seen.proofs.chains.Chains.find.Given as goal

abbrev pub invariant-loop-link : goal.invariant-loop-link
invariant-loop-link l = IsSearched (length l.self.heads.items) (strings_of l.self) l.bytes l.link

abbrev pub decreases-loop-link : goal.decreases-loop-link
decreases-loop-link l = l.link
