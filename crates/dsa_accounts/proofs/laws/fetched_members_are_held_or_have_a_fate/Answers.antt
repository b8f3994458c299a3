use Rattle.dsa_accounts.proofs.laws.fetched_members_are_held_or_have_a_fate.Goals as goal
use Rattle.dsa_accounts.proofs.Accounted.{replay-fetched}

pub returns : goal.returns
returns c = replay-fetched
