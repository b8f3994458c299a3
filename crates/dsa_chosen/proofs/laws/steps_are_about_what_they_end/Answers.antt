use Rattle.dsa_chosen.proofs.laws.steps_are_about_what_they_end.Goals as goal
use Rattle.dsa_chosen.proofs.Ended.{ended-about, lost-behind}

pub returns-clause-ended : goal.returns-clause-ended
returns-clause-ended c = ended-about

pub returns-clause-lost : goal.returns-clause-lost
returns-clause-lost c s s' step = lost-behind s s' step.event step.reply
