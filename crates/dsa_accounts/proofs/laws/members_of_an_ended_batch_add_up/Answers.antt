use Rattle.dsa_accounts.proofs.laws.members_of_an_ended_batch_add_up.Goals as goal
use Rattle.dsa_accounts.proofs.EndedBatches.{replay-ended}

pub returns : goal.returns
returns c = replay-ended
