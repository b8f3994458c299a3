use Rattle.dsa_draw.proofs.rows.bars.Goals as goal
use Rattle.std.proofs.Common.{refl}
use Rattle.dsa_draw.specs.Worked.{drawn_on_literals}

pub returns-clause-of_a_batch : goal.returns-clause-of_a_batch
unfolding drawn_on_literals
returns-clause-of_a_batch c levels = refl

pub returns-clause-above : goal.returns-clause-above
unfolding drawn_on_literals
returns-clause-above c levels = refl

pub returns-clause-ended_once : goal.returns-clause-ended_once
unfolding drawn_on_literals
returns-clause-ended_once c levels = refl

pub returns-clause-not_started : goal.returns-clause-not_started
unfolding drawn_on_literals
returns-clause-not_started c levels = refl

pub returns-clause-in_a_range : goal.returns-clause-in_a_range
unfolding drawn_on_literals
returns-clause-in_a_range c levels = refl

pub returns-clause-noted : goal.returns-clause-noted
unfolding drawn_on_literals
returns-clause-noted c memory = refl
