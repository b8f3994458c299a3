use Rattle.dsa_draw.proofs.rows.engines_of_a_run.Goals as goal
use Rattle.std.proofs.Common.{refl}
use Rattle.dsa_draw.specs.Worked.{drawn_on_literals}

pub returns-clause-has : goal.returns-clause-has
unfolding drawn_on_literals
returns-clause-has c levels = refl

pub returns-clause-marks : goal.returns-clause-marks
unfolding drawn_on_literals
returns-clause-marks c levels = refl

pub returns-clause-none : goal.returns-clause-none
unfolding drawn_on_literals
returns-clause-none c levels = refl

pub returns-clause-ends : goal.returns-clause-ends
unfolding drawn_on_literals
returns-clause-ends c levels = refl

pub returns-clause-end : goal.returns-clause-end
unfolding drawn_on_literals
returns-clause-end c levels = refl

pub returns-clause-text : goal.returns-clause-text
unfolding drawn_on_literals
returns-clause-text c levels = refl
