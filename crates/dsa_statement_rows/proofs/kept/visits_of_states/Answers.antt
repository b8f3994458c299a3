use Rattle.dsa_statement_rows.proofs.kept.visits_of_states.Goals as goal

pub returns-clause-there : goal.returns-clause-there
returns-clause-there c caps script setup searched keeps visited x visit at = visit.there x at

pub returns-clause-level : goal.returns-clause-level
returns-clause-level c caps script setup searched keeps visited x visit at = visit.level x at
