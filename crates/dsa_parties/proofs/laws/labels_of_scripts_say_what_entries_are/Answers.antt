use Rattle.dsa_parties.proofs.laws.labels_of_scripts_say_what_entries_are.Goals as goal
use Rattle.dsa_parties.proofs.Described.{offers-bring, described-after, first-described}

pub returns-clause-moves : goal.returns-clause-moves
returns-clause-moves c caps script w move offer labelled = offers-bring caps script w labelled move offer

pub returns-clause-kept : goal.returns-clause-kept
returns-clause-kept c caps script w w' move reply good = described-after caps script w good.is_labelled w' move reply

pub returns-clause-first : goal.returns-clause-first
returns-clause-first c = first-described
