use Rattle.dsa_shared_rows.proofs.seats.first_mismatches.Goals as goal
use Rattle.std.proofs.Common.{arith, inl, inr, refl, rules}
use Rattle.dsa_shared_rows.proofs.Lacking.{clients_match, engines_match, lacking_clients_differ, lacking_engines_differ}
use Rattle.dsa_shared_rows.proofs.Lacking.{lowest_of_clients, lowest_of_engines, no_mismatch_of_clients, no_mismatch_of_engines}
use Rattle.dsa_shared_rows.proofs.Lacking.{none_at_0_of_clients, none_at_0_of_engines}

pub returns-clause-client : goal.returns-clause-client
returns-clause-client c = inl lowest_of_clients

pub returns-clause-engine : goal.returns-clause-engine
returns-clause-engine c = inr (inl (clients_match, lowest_of_engines))

pub returns-clause-admin : goal.returns-clause-admin
returns-clause-admin c = inr (inr (clients_match, engines_match, (refl, λ same. grind (arith, same))))

pub returns-clause-none : goal.returns-clause-none
returns-clause-none c (inl is) = no_mismatch_of_clients 1 is
returns-clause-none c (inr (inl is)) = no_mismatch_of_engines 1 is.1
returns-clause-none c (inr (inr is)) = is.2.1 refl

pub returns-clause-clients_first : goal.returns-clause-clients_first
returns-clause-clients_first c = search rules

pub returns-clause-clients_before_the_admin : goal.returns-clause-clients_before_the_admin
returns-clause-clients_before_the_admin c (inl is) = none_at_0_of_clients is
returns-clause-clients_before_the_admin c (inr (inl is)) = lacking_clients_differ is.0
returns-clause-clients_before_the_admin c (inr (inr is)) = lacking_clients_differ is.0

pub returns-clause-engines_before_the_admin : goal.returns-clause-engines_before_the_admin
returns-clause-engines_before_the_admin c (inl is) = no_mismatch_of_clients 0 is
returns-clause-engines_before_the_admin c (inr (inl is)) = none_at_0_of_engines is.1
returns-clause-engines_before_the_admin c (inr (inr is)) = lacking_engines_differ is.1
