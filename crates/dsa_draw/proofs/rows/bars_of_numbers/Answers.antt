use Rattle.dsa_draw.proofs.rows.bars_of_numbers.Goals as goal
use Rattle.std.proofs.Common.{refl}
use Rattle.dsa_draw.specs.Worked.{drawn_on_literals}

pub returns-clause-of_names : goal.returns-clause-of_names
unfolding drawn_on_literals
returns-clause-of_names c levels = refl

pub returns-clause-first_step : goal.returns-clause-first_step
unfolding drawn_on_literals
returns-clause-first_step c levels = refl
