use Rattle.dsa_statement_rows.proofs.begins.first_worlds.Goals as goal

pub returns-clause-device : goal.returns-clause-device
returns-clause-device c caps script events w is = is.device

pub returns-clause-led : goal.returns-clause-led
returns-clause-led c caps script events w is = is.led

pub returns-clause-places : goal.returns-clause-places
returns-clause-places c caps script events w is = is.places

pub returns-clause-no_names : goal.returns-clause-no_names
returns-clause-no_names c caps script events w is = is.no_names

pub returns-clause-events : goal.returns-clause-events
returns-clause-events c caps events s is = is.events_are

pub returns-clause-allowed : goal.returns-clause-allowed
returns-clause-allowed c caps events s is = is.allowed

pub returns-clause-replayed : goal.returns-clause-replayed
returns-clause-replayed c caps events s is = is.led
