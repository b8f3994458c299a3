use Rattle.dsa_draw.proofs.rows.ranges.Goals as goal
use Rattle.std.proofs.Common.{refl}
use Rattle.dsa_draw.specs.Worked.{drawn_on_literals}

pub returns-clause-numbers : goal.returns-clause-numbers
unfolding drawn_on_literals
returns-clause-numbers c levels = refl

pub returns-clause-past : goal.returns-clause-past
unfolding drawn_on_literals
returns-clause-past c levels = refl

pub returns-clause-ended : goal.returns-clause-ended
unfolding drawn_on_literals
returns-clause-ended c levels = refl
