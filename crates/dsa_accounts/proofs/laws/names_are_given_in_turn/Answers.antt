use Rattle.dsa_accounts.proofs.laws.names_are_given_in_turn.Goals as goal
use Rattle.dsa_accounts.proofs.Totals.{replay-names}

pub returns : goal.returns
returns c = replay-names
