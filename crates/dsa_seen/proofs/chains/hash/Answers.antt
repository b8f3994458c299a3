use Rattle.std.proofs.Common.{rules}
use Rattle.dsa_seen.specs.Chains.{hash}
use Rattle.dsa_seen.proofs.chains.hash.Goals as goal

pub returns : goal.returns
unfolding hash
returns c = search rules
