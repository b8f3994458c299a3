use Rattle.dsa_draw.proofs.rows.levels_and_lines.Goals as goal
use Rattle.std.proofs.Common.{refl}
use Rattle.dsa_draw.specs.Worked.{drawn_on_literals}

pub returns-clause-band : goal.returns-clause-band
unfolding drawn_on_literals
returns-clause-band c memory = refl
