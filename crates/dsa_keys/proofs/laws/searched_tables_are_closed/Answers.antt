use Rattle.dsa_keys.proofs.laws.searched_tables_are_closed.Goals as goal
use Rattle.dsa_keys.proofs.Parties.{searched-closed}

pub returns : goal.returns
returns c caps parties good table lawful = searched-closed caps parties good lawful table
