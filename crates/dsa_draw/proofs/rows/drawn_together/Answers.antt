use Rattle.dsa_draw.proofs.rows.drawn_together.Goals as goal
use Rattle.std.proofs.Common.{refl}
use Rattle.dsa_draw.specs.Worked.{drawn_on_literals}

pub returns-clause-engine_of_a_batch : goal.returns-clause-engine_of_a_batch
unfolding drawn_on_literals
returns-clause-engine_of_a_batch c levels = refl

pub returns-clause-above_with_names : goal.returns-clause-above_with_names
unfolding drawn_on_literals
returns-clause-above_with_names c levels = refl

pub returns-clause-count : goal.returns-clause-count
unfolding drawn_on_literals
returns-clause-count c levels = refl
