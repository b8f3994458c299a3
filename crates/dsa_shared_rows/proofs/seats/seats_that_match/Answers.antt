use Rattle.dsa_shared_rows.proofs.seats.seats_that_match.Goals as goal
use Rattle.std.proofs.Common.{refl}
use Rattle.dsa_shared_rows.proofs.Lacking.{clients_match, engines_match, lacking_clients_differ, lacking_engines_differ}

pub returns-clause-all : goal.returns-clause-all
returns-clause-all c = record { client_receipts = clients_match; engine_receipts = engines_match; admin_receipts = refl }

pub returns-clause-not_clients : goal.returns-clause-not_clients
returns-clause-not_clients c is = lacking_clients_differ is.client_receipts

pub returns-clause-not_engines : goal.returns-clause-not_engines
returns-clause-not_engines c is = lacking_engines_differ is.engine_receipts
