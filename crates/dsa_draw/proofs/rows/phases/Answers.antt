use Rattle.dsa_draw.proofs.rows.phases.Goals as goal
use Rattle.std.proofs.Common.{refl}
use Rattle.dsa_draw.specs.Worked.{drawn_on_literals}

pub returns-clause-at_a_moment : goal.returns-clause-at_a_moment
unfolding drawn_on_literals
returns-clause-at_a_moment c memory = refl

pub returns-clause-lines : goal.returns-clause-lines
unfolding drawn_on_literals
returns-clause-lines c levels = refl

pub returns-clause-twice : goal.returns-clause-twice
unfolding drawn_on_literals
returns-clause-twice c levels = refl
