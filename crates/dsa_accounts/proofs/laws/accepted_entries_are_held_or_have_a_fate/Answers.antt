use Rattle.dsa_accounts.proofs.laws.accepted_entries_are_held_or_have_a_fate.Goals as goal
use Rattle.dsa_accounts.proofs.Accounted.{replay-accepted}

pub returns : goal.returns
returns c = replay-accepted
