use Rattle.dsa_accounts.proofs.laws.members_alone_are_abandoned.Goals as goal
use Rattle.dsa_accounts.proofs.Abandons.{replay-lawful}

pub returns : goal.returns
returns c = replay-lawful
