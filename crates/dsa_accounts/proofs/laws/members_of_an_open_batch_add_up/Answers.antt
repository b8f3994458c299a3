use Rattle.dsa_accounts.proofs.laws.members_of_an_open_batch_add_up.Goals as goal
use Rattle.dsa_accounts.proofs.BatchCounts.{adds-up, replay-counts}

pub returns : goal.returns
returns c caps h s e n r is = adds-up s.work n ((replay-counts caps h s r).notes e n is)
