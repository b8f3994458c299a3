use Rattle.dsa_report_rows.proofs.states_asked.names_of_states.Goals as goal

pub returns-clause-labels : goal.returns-clause-labels
returns-clause-labels c naming labels = labels

pub returns-clause-acts : goal.returns-clause-acts
returns-clause-acts c naming acts = acts
