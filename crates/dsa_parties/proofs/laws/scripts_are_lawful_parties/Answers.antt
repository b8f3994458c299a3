use Rattle.dsa_parties.proofs.laws.scripts_are_lawful_parties.Goals as goal
use Rattle.dsa_parties.proofs.Lawful.{lawful, first-good}

pub returns-clause-lawful : goal.returns-clause-lawful
returns-clause-lawful c = lawful

pub returns-clause-first : goal.returns-clause-first
returns-clause-first c = first-good
