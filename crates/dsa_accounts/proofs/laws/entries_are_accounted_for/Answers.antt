use Rattle.dsa_accounts.proofs.laws.entries_are_accounted_for.Goals as goal
use Rattle.dsa_accounts.proofs.Totals.{replay-held, replay-names-le}

pub returns-clause-held : goal.returns-clause-held
returns-clause-held c = replay-held

pub returns-clause-names : goal.returns-clause-names
returns-clause-names c = replay-names-le
