use Rattle.std.proofs.Common.{◌∙◌, ◌%◌}
use Rattle.dsa_seen.specs.Chains.{place_among}
use Rattle.dsa_seen.proofs.chains.Chains.place.Goals as goal

pub returns-clause-place : goal.returns-clause-place
unfolding place_among
returns-clause-place c = λ j. c.hash.ensures j % (c.len.ensures ∙ c.args.self.now.heads.ok.0) j
