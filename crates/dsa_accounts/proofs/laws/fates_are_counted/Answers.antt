use Rattle.dsa_accounts.proofs.laws.fates_are_counted.Goals as goal
use Rattle.dsa_accounts.proofs.Totals.{replay-rows}

pub returns : goal.returns
returns c = replay-rows
