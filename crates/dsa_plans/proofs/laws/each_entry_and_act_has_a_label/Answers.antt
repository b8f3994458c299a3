use Rattle.dsa_plans.proofs.laws.each_entry_and_act_has_a_label.Goals as goal
use Rattle.dsa_plans.proofs.Labelled.{each-labelled}

pub returns-clause-entries : goal.returns-clause-entries
returns-clause-entries c count document d tables said has = (each-labelled count document d tables said has).0

pub returns-clause-acts : goal.returns-clause-acts
returns-clause-acts c count document d tables said has = (each-labelled count document d tables said has).1
