use Rattle.dsa_laws.proofs.laws.each_name_is_held_or_has_a_fate.Goals as goal
use Rattle.dsa_laws.proofs.Histories.{replay-well_formed}

pub returns-clause-given : goal.returns-clause-given
returns-clause-given c = λ caps h s name e. (replay-well_formed caps h s e).names.given name

pub returns-clause-not_given : goal.returns-clause-not_given
returns-clause-not_given c = λ caps h s name e. (replay-well_formed caps h s e).names.not_given name
