use Rattle.dsa_draw.proofs.rows.active.Goals as goal
use Rattle.std.proofs.Common.{refl}
use Rattle.dsa_draw.specs.Worked.{drawn_on_literals}

pub returns-clause-finished : goal.returns-clause-finished
unfolding drawn_on_literals
returns-clause-finished c levels = refl

pub returns-clause-still_active : goal.returns-clause-still_active
unfolding drawn_on_literals
returns-clause-still_active c levels = refl

pub returns-clause-two : goal.returns-clause-two
unfolding drawn_on_literals
returns-clause-two c levels = refl

pub returns-clause-above : goal.returns-clause-above
unfolding drawn_on_literals
returns-clause-above c levels = refl
