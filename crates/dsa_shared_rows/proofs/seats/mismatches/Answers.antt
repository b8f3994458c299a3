use Rattle.dsa_shared_rows.proofs.seats.mismatches.Goals as goal
use Rattle.dsa_shared_rows.proofs.Lacking.{lowest_of_clients, no_mismatch_of_clients, none_at_0_of_clients}

pub returns-clause-lowest : goal.returns-clause-lowest
returns-clause-lowest c = lowest_of_clients

pub returns-clause-not_the_lowest : goal.returns-clause-not_the_lowest
returns-clause-not_the_lowest c is = none_at_0_of_clients is

pub returns-clause-all_match : goal.returns-clause-all_match
returns-clause-all_match c is = no_mismatch_of_clients 1 is
