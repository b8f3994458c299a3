use Rattle.dsa_draw.proofs.rows.engines.Goals as goal
use Rattle.std.proofs.Common.{refl}
use Rattle.dsa_draw.specs.Worked.{drawn_on_literals}

pub returns-clause-title_with_reason : goal.returns-clause-title_with_reason
unfolding drawn_on_literals
returns-clause-title_with_reason c memory levels = refl

pub returns-clause-other_step : goal.returns-clause-other_step
unfolding drawn_on_literals
returns-clause-other_step c memory levels = refl

pub returns-clause-title_with_names : goal.returns-clause-title_with_names
unfolding drawn_on_literals
returns-clause-title_with_names c memory = refl

pub returns-clause-own_names : goal.returns-clause-own_names
unfolding drawn_on_literals
returns-clause-own_names c memory = refl

pub returns-clause-bar_with_names : goal.returns-clause-bar_with_names
unfolding drawn_on_literals
returns-clause-bar_with_names c memory = refl
