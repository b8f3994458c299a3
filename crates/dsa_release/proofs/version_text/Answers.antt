use Rattle.dsa_release.proofs.version_text.Goals as goal
use Rattle.std.{proofs.Common.{refl}, specs.Fmt.{digits}}

pub returns : goal.returns
unfolding digits
returns c = refl
