use Rattle.dsa_draw.proofs.rows.columns.Goals as goal
use Rattle.std.proofs.Common.{refl}
use Rattle.dsa_draw.specs.Worked.{drawn_on_literals}

pub returns-clause-column : goal.returns-clause-column
unfolding drawn_on_literals
returns-clause-column c levels = refl

pub returns-clause-of_a_batch : goal.returns-clause-of_a_batch
unfolding drawn_on_literals
returns-clause-of_a_batch c levels = refl
