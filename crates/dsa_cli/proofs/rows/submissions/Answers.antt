use Rattle.dsa_cli.proofs.rows.submissions.Goals as goal
use Rattle.std.proofs.Common.{refl}

pub returns : goal.returns
returns c = record { queue = refl; portal = refl; kind = refl; bytes = refl }
