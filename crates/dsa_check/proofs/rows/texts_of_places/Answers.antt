use Rattle.dsa_check.proofs.rows.texts_of_places.Goals as goal
use Rattle.std.proofs.Common.{refl}
use Rattle.dsa_scenario.specs.Worked.{digits_on_literals}

pub returns-clause-told : goal.returns-clause-told
unfolding digits_on_literals
returns-clause-told c text = refl
