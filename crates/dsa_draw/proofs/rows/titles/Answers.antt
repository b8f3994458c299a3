use Rattle.dsa_draw.proofs.rows.titles.Goals as goal
use Rattle.std.proofs.Common.{refl}
use Rattle.dsa_draw.specs.Worked.{drawn_on_literals}

pub returns-clause-idle : goal.returns-clause-idle
unfolding drawn_on_literals
returns-clause-idle c memory = refl

pub returns-clause-completed : goal.returns-clause-completed
unfolding drawn_on_literals
returns-clause-completed c memory levels = refl

pub returns-clause-taken : goal.returns-clause-taken
unfolding drawn_on_literals
returns-clause-taken c memory = refl

pub returns-clause-with_names : goal.returns-clause-with_names
unfolding drawn_on_literals
returns-clause-with_names c memory = refl

pub returns-clause-word : goal.returns-clause-word
unfolding drawn_on_literals
returns-clause-word c memory = refl
