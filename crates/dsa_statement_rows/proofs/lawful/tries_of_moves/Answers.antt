use Rattle.dsa_statement_rows.proofs.lawful.tries_of_moves.Goals as goal

pub returns-clause-leads : goal.returns-clause-leads
returns-clause-leads c parties table x reply was = was.leads

pub returns-clause-queues : goal.returns-clause-queues
returns-clause-queues c parties table x reply was = was.queues

pub returns-clause-stored : goal.returns-clause-stored
returns-clause-stored c parties table x reply was = was.stored

pub returns-clause-there : goal.returns-clause-there
returns-clause-there c space x tried leads = leads.there

pub returns-clause-led : goal.returns-clause-led
returns-clause-led c space x tried leads = leads.led

pub returns-clause-back : goal.returns-clause-back
returns-clause-back c space x tried leads = leads.back
