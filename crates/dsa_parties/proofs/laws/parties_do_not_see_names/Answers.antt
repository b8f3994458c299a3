use Rattle.dsa_parties.proofs.laws.parties_do_not_see_names.Goals as goal
use Rattle.dsa_parties.proofs.Replies.{came-same, standing-same}

pub returns-clause-places : goal.returns-clause-places
returns-clause-places c = standing-same

pub returns-clause-memory : goal.returns-clause-memory
returns-clause-memory c = came-same
